-- What is stored and what is still to be packed make the whole payload. Assumes nothing.
use Rattle.payloads.proofs.Pieces.{Packing}
use Rattle.payloads.proofs.pack.Given as goal

abbrev pub invariant-loop-n : goal.invariant-loop-n
invariant-loop-n l = Packing l.codes l.initial.payload l.payload l.n
