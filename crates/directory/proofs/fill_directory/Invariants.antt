-- Each turn writes where the bucket of one key ends. Assumes nothing.
use lib.ListN.{length}
use Rattle.directory.proofs.Buckets.{Filling}
use Rattle.directory.proofs.fill_directory.Given as goal

abbrev pub invariant-loop-q : goal.invariant-loop-q
invariant-loop-q l = Filling l.low l.keys l.initial.ends l.ends (length l.keys) l.q
