-- Document 01's numbers tell errors apart, and so what a writer answers by them. Assumes nothing.
use Rattle.std.proofs.Common.{◌≡◌, ◌≤◌, ℕ, arith, Result, Ok, Err, cond, eqb, sym, refl, ap, ◌∙◌}
use Rattle.lines.specs.declared.error.FrameError.{FrameError}
use Rattle.lines.specs.declared.error.FrameError.TheVariants.{NotALine, WrongLength, WrongCheck, WrongKind, OutOfTurn, WrongPayload, TooManyLetters, DoesNotFit}
use Rattle.lines.specs.Errors.{number_of, number_in}
use Rattle.lines.specs.Writing.{Written, written_of}

-- the error of a number, and the answer of a record
unfoldable pub error_of : ℕ → FrameError
error_of n =
    cond (eqb n 20) NotALine (cond (eqb n 21) WrongLength (cond (eqb n 22) WrongCheck (cond (eqb n 23) WrongKind
    (cond (eqb n 24) OutOfTurn (cond (eqb n 25) WrongPayload (cond (eqb n 26) TooManyLetters DoesNotFit))))))

answer_of : Written → Result ℕ FrameError
answer_of w = cond (eqb w.number 0) (Ok w.length) (Err (error_of w.number))

pub error_back : (e : FrameError) → error_of (number_of e) ≡ e
unfolding error_of
error_back NotALine = refl
error_back WrongLength = refl
error_back WrongCheck = refl
error_back WrongKind = refl
error_back OutOfTurn = refl
error_back WrongPayload = refl
error_back TooManyLetters = refl
error_back DoesNotFit = refl

answer_back : (r : Result ℕ FrameError) → answer_of (written_of r) ≡ r
unfolding answer_of error_of
answer_back (Ok n) = refl
answer_back (Err NotALine) = refl
answer_back (Err WrongLength) = refl
answer_back (Err WrongCheck) = refl
answer_back (Err WrongKind) = refl
answer_back (Err OutOfTurn) = refl
answer_back (Err WrongPayload) = refl
answer_back (Err TooManyLetters) = refl
answer_back (Err DoesNotFit) = refl

-- no error has the number 0
pub error_some : (e : FrameError) → 20 ≤ number_of e
error_some NotALine = omega arith
error_some WrongLength = omega arith
error_some WrongCheck = omega arith
error_some WrongKind = omega arith
error_some OutOfTurn = omega arith
error_some WrongPayload = omega arith
error_some TooManyLetters = omega arith
error_some DoesNotFit = omega arith

-- two errors of one number are one
pub one_error : (d e : FrameError) → number_of d ≡ number_of e → d ≡ e
one_error d e h = sym (error_back d) ∙ ap error_of h ∙ error_back e

-- so two answers that carry nothing are one if their numbers are
pub one_done : (r s : Result (Unit {0}) FrameError) → number_in r ≡ number_in s → r ≡ s
one_done (Ok x) (Ok y) h = refl
one_done (Ok x) (Err e) h = absurd (omega (arith, error_some e))
one_done (Err d) (Ok y) h = absurd (omega (arith, error_some d))
one_done (Err d) (Err e) h = ap Err (one_error d e h)

-- and two answers of one record: any two results of `lines::write_line` are equal
pub one_written : (r s : Result ℕ FrameError) → written_of r ≡ written_of s → r ≡ s
one_written r s h = sym (answer_back r) ∙ ap answer_of h ∙ answer_back s
