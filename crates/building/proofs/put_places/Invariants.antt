-- Each turn writes one place and touches no other number. Assumes nothing.
use Rattle.building.specs.Raised.{Raised}
use Rattle.building.proofs.put_places.Given as goal

abbrev pub invariant-loop-q : goal.invariant-loop-q
invariant-loop-q l = Raised l.order l.initial.index l.index l.q
