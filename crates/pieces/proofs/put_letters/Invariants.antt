-- What is stored and what is still to be stored are the letters of the piece. Assumes nothing.
use Rattle.pieces.proofs.Unpacking.{Storing}
use Rattle.pieces.proofs.put_letters.Given as goal

abbrev pub invariant-loop-byte : goal.invariant-loop-byte
invariant-loop-byte l = Storing l.payload l.initial.letters l.letters l.at l.place l.byte-index
