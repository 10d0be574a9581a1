-- Each turn writes one key and touches no other number. Assumes nothing.
use Rattle.index.specs.Keys.{Keyed}
use Rattle.index.proofs.read_keys.Given as goal

abbrev pub invariant-loop-q : goal.invariant-loop-q
invariant-loop-q l = Keyed l.codes l.index l.initial.keys l.keys l.q
