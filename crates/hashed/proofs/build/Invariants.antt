-- A column whose code the search finds, or that has no k-mer, leaves the table as it is; every other is a first column, is put into it and
-- owns itself. Each turn writes one owner and touches no number behind it. Assumes nothing.
use Rattle.ownership.specs.Owners.{Owned}
use Rattle.hashed.specs.Table.{Table}
use Rattle.hashed.proofs.build.Given as goal

abbrev pub invariant-loop-n : goal.invariant-loop-n
invariant-loop-n l = Table l.second l.bucket l.link l.n × Owned l.second l.second l.initial.own l.own l.n
