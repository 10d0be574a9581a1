-- Each turn leaves a row's owner where its count is not above a, and else writes 0. Assumes nothing.
use mathlib.Core.List.{◌++◌}
use lib.ListN.{drop}
use Rattle.totals.specs.Steps.{Capped}
use Rattle.totals.proofs.cap.Given as goal

abbrev pub invariant-loop-row : goal.invariant-loop-row
invariant-loop-row l = Capped l.count l.a l.fn.firsts (l.row-items ++ drop l.n l.fn.firsts) l.row-index
