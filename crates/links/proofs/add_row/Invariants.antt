-- `links::add_row` meets its contract: the row is counted and linked up to the column that the walk has passed, whose window is held. Assumes nothing.
use Rattle.std.proofs.Common.{◌≡◌}
use Rattle.windows.specs.Windows.{WindowHolds}
use Rattle.links.proofs.Links.{AddLoop}
use Rattle.links.proofs.add_row.Given as goal

abbrev pub invariant-loop-j : goal.invariant-loop-j
invariant-loop-j l = record {
  steps : l.j-iterator.nexts.now ≡ l.fn.row.nexts.now;
  added : AddLoop l.fn.row.nexts.now l.fn.row.at l.initial.window.b l.initial.counts l.initial.total l.counts l.total l.j-iterator.at;
  window_holds : WindowHolds l.counts l.window.b l.window.at l.window.held;
  same_bound : l.window.b ≡ l.initial.window.b;
}
