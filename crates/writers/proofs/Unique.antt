-- A number and a length tell what a writer answers. Assumes nothing.
use Rattle.std.proofs.Common.{◌≡◌, ℕ, Result, sym, ◌∙◌}
use Rattle.lines.specs.declared.error.FrameError.{FrameError}
use Rattle.lines.specs.Writing.{Written, written_of}
use Rattle.lines.proofs.Unique.{one_written}

-- any two results of `writers::write_job`, and any two results of `writers::write_end`, are equal,
-- any two results of `writers::write_first_piece`, and of `writers::write_second_piece`,
-- any two results of `writers::write_entry`, and of `writers::write_reverse_entry`,
-- any two results of `writers::write_done`, and of `writers::write_refused`
pub one_answer : (w : Written) (r s : Result ℕ FrameError) → written_of r ≡ w → written_of s ≡ w → r ≡ s
one_answer w r s h g = one_written r s (h ∙ sym g)
