-- Each turn writes one owner and touches no other number. Assumes nothing.
use Rattle.ownership.specs.Owners.{Owned}
use Rattle.ownership.proofs.own_each.Given as goal

abbrev pub invariant-loop-i : goal.invariant-loop-i
invariant-loop-i g l = Owned (g.O.Owners.columns l.owners) l.codes l.initial.own l.own l.i
