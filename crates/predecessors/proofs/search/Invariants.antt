-- `predecessors::search` meets its contract: the walk has passed the columns above q, and what it has is the best of them, of the row on the left and of
-- what lies below `stop`. Assumes nothing.
use Prim.Native.Nat.{◌+◌, ◌-◌, ◌≤◌}
use Rattle.predecessors.specs.Found.{number_of, near_of, column_of}
use Rattle.predecessors.proofs.Steps.{WalkedDown}
use Rattle.predecessors.proofs.search.Given as goal

abbrev pub invariant-loop-q : goal.invariant-loop-q
invariant-loop-q l = (l.j - l.held.b ≤ l.stop + 1)
    × WalkedDown l.room l.latest l.held.ring l.held.tail (near_of l.fn.near) (column_of l.fn.near) l.held.from l.held.b l.j l.q l.stop l.top (number_of l.best)
