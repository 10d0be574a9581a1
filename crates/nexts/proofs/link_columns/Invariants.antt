-- The column of a code met last, from the last column on, is the next column of the one met now, and its count has one column more; every
-- code is known by its owner. Assumes nothing.
use lib.ListN.{length}
use Rattle.totals.proofs.Counting.{TalliedFrom}
use Rattle.nexts.proofs.Links.{Linking}
use Rattle.nexts.proofs.link_columns.Given as goal

abbrev pub invariant-loop-p : goal.invariant-loop-p
invariant-loop-p l = Linking l.second l.initial.tail l.tail l.initial.nexts l.nexts l.p × TalliedFrom l.own (length l.second) l.p l.a l.initial.count l.count
