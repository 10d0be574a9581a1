-- `exchange::answer` meets its contract: the input is read, and its refusal or its job is written. Assumes nothing.
use Rattle.std.proofs.Common.{refl, sym, arith}
use lib.Seq.{length-take-le}
use Rattle.turns.proofs.Taking.{some_number}
use Rattle.input.specs.Grammar.{refused_input, input_read}
use Rattle.exchange.specs.Whole.{input_refusal}
use Rattle.exchange.proofs.Bounded.{refusal_fits, first_count, second_count, front_fits, front_letters, short_output, long_output, refused_lines, job_lines}
use Rattle.exchange.proofs.answer.Goals as goal

pub returns-then-output-lt9038 : goal.returns-then-output-lt9038
returns-then-output-lt9038 c =
    let both = short_output c.args.input.now c.args.output.now c.args.output.now 0 (omega (arith, c.if-output-lt9038.true)) in
    record { value = both.0; output_after = both.1 }

-- ---- the input is wrong

pub put_refused-requires : goal.put_refused-requires
unfolding input_refusal input_read refused_input
put_refused-requires c =
    record { x_value = rw c.number.ensures (refusal_fits c.args.input.now _ c.in-Err.ensures.value); in_bounds = c.if-output-lt9038.false }

pub returns-in-Err : goal.returns-in-Err
unfolding input_refusal input_read refused_input
returns-in-Err c =
    let w = c.put_refused in
    let lines = refused_lines c.args.input.now c.args.output.now w.new.output w.result _ c.in-Err.ensures.value (some_number _) in
    let both = long_output c.args.input.now c.args.output.now w.new.output w.result _ c.if-output-lt9038.false lines
    (rw c.number.ensures at w.ensures.value) (rw c.number.ensures at w.ensures.output_after) in
    record { value = both.0; output_after = both.1 }

-- ---- a job

pub slice_bounds-first-end : goal.slice_bounds-first-end
unfolding input_read
slice_bounds-first-end c =
    front_fits c.in-Ok.read.first _ _ _ (first_count c.args.input.now _ c.in-Ok.ensures.value refl) c.in-Ok.ensures.first_after

pub slice_bounds-answer_job-end : goal.slice_bounds-answer_job-end
unfolding input_read
slice_bounds-answer_job-end c =
    sym (length-take-le c.in-Ok.read.first _
    (front_fits c.in-Ok.read.first _ _ _ (first_count c.args.input.now _ c.in-Ok.ensures.value refl) c.in-Ok.ensures.first_after))

pub slice_bounds-second-end : goal.slice_bounds-second-end
unfolding input_read
slice_bounds-second-end c =
    front_fits c.in-Ok.read.second _ _ _ (second_count c.args.input.now _ c.in-Ok.ensures.value refl) c.in-Ok.ensures.second_after

pub slice_bounds-answer_job-end-in-Ok : goal.slice_bounds-answer_job-end-in-Ok
unfolding input_read
slice_bounds-answer_job-end-in-Ok c =
    sym (length-take-le c.in-Ok.read.second _
    (front_fits c.in-Ok.read.second _ _ _ (second_count c.args.input.now _ c.in-Ok.ensures.value refl) c.in-Ok.ensures.second_after))

pub answer_job-requires : goal.answer_job-requires
answer_job-requires c =
    c.if-output-lt9038.false

pub returns-in-Ok : goal.returns-in-Ok
unfolding input_read
returns-in-Ok c =
    let value = c.in-Ok.ensures.value in
    let w = c.answer_job in
    let first = front_letters c.in-Ok.read.first _ _ _ (first_count c.args.input.now _ value refl) c.in-Ok.ensures.first_after in
    let second = front_letters c.in-Ok.read.second _ _ _ (second_count c.args.input.now _ value refl) c.in-Ok.ensures.second_after in
    let both = long_output c.args.input.now c.args.output.now w.new.output w.result _ c.if-output-lt9038.false
    (job_lines c.args.input.now c.args.output.now w.new.output w.result _ _ _ value refl first second) w.ensures.value w.ensures.output_after in
    record { value = both.0; output_after = both.1 }
