-- As many places as there are with a k-mer, each standing before the next, are the index; and one that does not go on refutes it. Assumes nothing.
use Rattle.index.proofs.Passes.{Pass}
use Rattle.index.proofs.begins.Given as goal

abbrev pub invariant-loop-t : goal.invariant-loop-t
invariant-loop-t l = Pass l.codes l.index l.n l.t l.code l.last
