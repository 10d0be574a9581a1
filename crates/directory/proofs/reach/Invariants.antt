-- Keys rise, so that all before one that is below the code are. Assumes nothing.
use Rattle.directory.proofs.Lookups.{Reaching}
use Rattle.directory.proofs.reach.Given as goal

abbrev pub invariant-loop-begin : goal.invariant-loop-begin
invariant-loop-begin l = Reaching l.end l.begin l.step

abbrev pub decreases-loop-begin : goal.decreases-loop-begin
decreases-loop-begin l = l.begin
