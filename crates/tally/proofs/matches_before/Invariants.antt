-- `tally::matches_before` meets its contract: after p rows the matches of the first p are counted. Assumes nothing.
use mathlib.Core.Path.{◌≡◌}
use lib.ListN.{length}
use Rattle.matches.specs.Walks.{walked_to}
use Rattle.tally.proofs.matches_before.Given as goal

abbrev pub invariant-loop-p : goal.invariant-loop-p
invariant-loop-p l = l.matches ≡ length (walked_to l.walk.firsts.now l.walk.nexts.now l.p)
