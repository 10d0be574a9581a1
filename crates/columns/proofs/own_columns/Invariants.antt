-- Each turn writes the owner of one place, that of the run it is in. Assumes nothing.
use lib.ListN.{length}
use Rattle.columns.proofs.Runs.{Owning}
use Rattle.columns.proofs.own_columns.Given as goal

abbrev pub invariant-loop-place : goal.invariant-loop-place
invariant-loop-place l = Owning l.lookup.codes.now l.lookup.index.now l.lookup.keys.now l.initial.own l.own (length l.yielded) l.last l.owner
