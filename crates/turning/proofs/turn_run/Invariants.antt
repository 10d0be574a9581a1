-- Each turn writes one place, counted from the last, and touches no other number. Assumes nothing.
use lib.ListN.{length}
use Prim.Native.Nat.{◌+◌}
use Rattle.turning.proofs.Runs.{TurnedTo}
use Rattle.turning.proofs.turn_run.Given as goal

abbrev pub invariant-loop-q : goal.invariant-loop-q
invariant-loop-q l = TurnedTo l.index l.columns l.from l.to l.initial.out l.out (l.from + length l.yielded)
