-- Document 01's numbers, the kind and the size tell what a reader of a line answers. Assumes nothing.
use Rattle.std.proofs.Common.{◌≡◌, Result, Ok, Err, cond, eqb, sym, refl, ap, ◌∙◌}
use Rattle.lines.specs.declared.error.FrameError.{FrameError}
use Rattle.lines.specs.declared.error.FrameError.TheVariants.{NotALine, WrongLength, WrongCheck, WrongKind, OutOfTurn, WrongPayload, TooManyLetters, DoesNotFit}
use Rattle.lines.proofs.Unique.{error_of}
use Rattle.decoding.specs.declared.Frame as declared
use Rattle.decoding.specs.Reading.{Frame, refused_frame, numbered_frame}

-- the answer of a record
answer_of : Frame → Result declared.Frame FrameError
answer_of f = cond (eqb f.number 0) (Ok (record { kind = f.kind; size = f.size })) (Err (error_of f.number))

answer_back : (r : Result declared.Frame FrameError) → answer_of (numbered_frame r) ≡ r
unfolding answer_of error_of refused_frame
answer_back (Ok f) = refl
answer_back (Err NotALine) = refl
answer_back (Err WrongLength) = refl
answer_back (Err WrongCheck) = refl
answer_back (Err WrongKind) = refl
answer_back (Err OutOfTurn) = refl
answer_back (Err WrongPayload) = refl
answer_back (Err TooManyLetters) = refl
answer_back (Err DoesNotFit) = refl

-- any two results of `decoding::read_line` are equal
pub one_frame : (r s : Result declared.Frame FrameError) → numbered_frame r ≡ numbered_frame s → r ≡ s
one_frame r s h = sym (answer_back r) ∙ ap answer_of h ∙ answer_back s
