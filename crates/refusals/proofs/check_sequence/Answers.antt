-- `refusals::check_sequence` meets its contract: the length's line, and where it passes the letters'. Assumes nothing.
use Rattle.std.proofs.Common.{[], ◌∷◌, length, refl, sym, ◌∙◌}
use Rattle.rules.specs.Answers.{letter_check}
use Rattle.answers.specs.Outcomes.{sequence_number}
use Rattle.refusals.proofs.Checking.{refuses, passes, length_refuses}
use Rattle.refusals.proofs.check_sequence.Goals as goal

pub returns-in_err-length_of : goal.returns-in_err-length_of
returns-in_err-length_of c =
    refuses (letter_check (sequence_number c.args.sequence) c.args.s.now ∷ []) refl (length_refuses _ (length c.args.s.now)) c.in_err-length_of.field-0.0
    c.from_residual.result c.from_residual.ensures.1 c.in_err-length_of.ensures

pub returns : goal.returns
returns c =
    c.letters_of.ensures
    ∙ sym (passes (letter_check (sequence_number c.args.sequence) c.args.s.now ∷ []) refl (length_refuses _ (length c.args.s.now)) c.in_ok-length_of.ensures)
