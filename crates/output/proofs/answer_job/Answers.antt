-- `output::answer_job` meets its contract: one refused frame, or the entries and one done frame. Assumes nothing.
use Rattle.std.proofs.Common.{◌≡◌, ℕ, List, length, refl, ap, ◌∙◌}
use Rattle.lines.specs.Writing.{in_front}
use Rattle.rules.specs.Answers.{refusal, done}
use Rattle.answers.proofs.Unique.{refusal_refuses}
use Rattle.output.specs.Output.{refused_of}
use Rattle.output.proofs.Answering.{refused_output, refused_fits_lem, listing_output, listing_safe}
use Rattle.output.proofs.answer_job.Goals as goal

-- the lines that were written are the output
as-output : (lines output old left : List ℕ) (n : ℕ) → lines ≡ output → n ≡ length lines → left ≡ in_front lines old
    → (n ≡ length output) × (left ≡ in_front output old)
as-output lines output old left n e a b = (a ∙ ap length e, b ∙ ap (λ (l : List ℕ). in_front l old) e)

pub put_listing-requires : goal.put_listing-requires
unfolding done
put_listing-requires c = listing_safe c.args.c c.args.first.now c.args.second.now c.in-Ok.ensures refl _ c.requires

pub returns-in-Ok : goal.returns-in-Ok
unfolding done
returns-in-Ok c =
    let lines = listing_output c.args.c c.args.first.now c.args.second.now c.in-Ok.ensures refl in
    let both = as-output _ _ _ _ _ lines c.put_listing.ensures.value c.put_listing.ensures.output_after in
    record { value = both.0; output_after = both.1 }

pub put_refused-requires : goal.put_refused-requires
unfolding refusal refused_of
put_refused-requires c =
    let fits = refused_fits_lem c.args.c c.args.first.now c.args.second.now c.in-Err.ensures (refusal_refuses _) in
    record { x_value = rw c.numbers-number.ensures fits; in_bounds = c.requires }

pub returns-in-Err : goal.returns-in-Err
unfolding refusal refused_of
returns-in-Err c =
    let w = c.put_refused in
    let lines = refused_output c.args.c c.args.first.now c.args.second.now c.in-Err.ensures (refusal_refuses _) in
    let both = as-output _ _ _ _ _ lines (rw c.numbers-number.ensures at w.ensures.value) (rw c.numbers-number.ensures at w.ensures.output_after) in
    record { value = both.0; output_after = both.1 }
