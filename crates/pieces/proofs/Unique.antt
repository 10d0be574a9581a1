-- A number and a count tell what became of a piece. Assumes nothing.
use Rattle.std.proofs.Common.{◌≡◌, ℕ, Result, Ok, Err, ap, sym, ◌∙◌, arith}
use Rattle.lines.specs.declared.error.FrameError.{FrameError}
use Rattle.lines.proofs.Unique.{error_some, one_error}
use Rattle.pieces.specs.Taking.{Taken, taken_of}

one_taken : (count : ℕ) (r s : Result ℕ FrameError) → taken_of count r ≡ taken_of count s → r ≡ s
one_taken count (Ok m) (Ok n) h = ap (λ (t : Taken). Ok t.count) h
one_taken count (Ok m) (Err e) h = absurd (omega (arith, error_some e, ap (λ (t : Taken). t.number) h))
one_taken count (Err d) (Ok n) h = absurd (omega (arith, error_some d, ap (λ (t : Taken). t.number) h))
one_taken count (Err d) (Err e) h = ap Err (one_error d e (ap (λ (t : Taken). t.number) h))

-- any two results of `pieces::take_piece` are equal
pub one_piece : (count : ℕ) (t : Taken) (r s : Result ℕ FrameError) → taken_of count r ≡ t → taken_of count s ≡ t → r ≡ s
one_piece count t r s h g = one_taken count r s (h ∙ sym g)
