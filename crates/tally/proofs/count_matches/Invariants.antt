-- `tally::count_matches` meets its contract: the running number is the run of the last row, and W the largest so far. Assumes nothing.
use Rattle.tally.proofs.Runs.{RunLoop}
use Rattle.tally.proofs.count_matches.Given as goal

abbrev pub invariant-loop-p : goal.invariant-loop-p
invariant-loop-p l = RunLoop l.walk.firsts.now l.walk.nexts.now l.b l.matches l.run l.widest l.p
