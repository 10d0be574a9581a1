-- `rows::store_row` meets its contract: after each turn the records are those of the row up to its column, and j is the next match. Assumes nothing.
use Rattle.std.proofs.Common.{◌≡◌}
use Rattle.predecessors.specs.Found.{near_of, column_of}
use Rattle.rows.proofs.Turning.{RowInv}
use Rattle.rows.proofs.store_row.Given as goal

abbrev pub invariant-loop-j : goal.invariant-loop-j
invariant-loop-j l = record {
  steps : l.j-iterator.nexts.now ≡ l.fn.row.nexts.now;
  stored : RowInv l.held.b l.i l.initial.room l.initial.latest l.fn.row.nexts.now l.held.ring l.held.tail l.held.head l.held.from l.fn.row.at l.room l.latest
      l.head (near_of l.near) (column_of l.near) l.j-iterator.at;
}
