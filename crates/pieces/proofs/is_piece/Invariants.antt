-- As long as no half was 0, what is ahead has the answer; a low half that is 0 must be the last. Assumes nothing.
use Rattle.pieces.proofs.Unpacking.{Halving}
use Rattle.pieces.proofs.is_piece.Given as goal

abbrev pub invariant-loop-i : goal.invariant-loop-i
invariant-loop-i l = Halving l.payload l.i
