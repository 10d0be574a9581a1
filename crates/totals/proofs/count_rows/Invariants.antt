-- Each turn counts one row for its owner, or sets the row to 0 where the count had passed a before it. Assumes nothing.
use mathlib.Core.List.{◌++◌}
use lib.ListN.{drop}
use Rattle.totals.proofs.Striking.{RowsCounted}
use Rattle.totals.proofs.count_rows.Given as goal

abbrev pub invariant-loop-row : goal.invariant-loop-row
invariant-loop-row l = RowsCounted l.a l.fn.firsts l.initial.count (l.row-items ++ drop l.n l.fn.firsts) l.count l.late l.row-index
