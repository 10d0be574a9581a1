-- `links::release_row` meets its contract: the row is released up to the column that the walk has passed, and the window holds so many less. Assumes nothing.
use Rattle.std.proofs.Common.{◌≡◌}
use Rattle.windows.specs.Windows.{WindowHolds}
use Rattle.links.proofs.Releases.{ReleaseLoop}
use Rattle.links.proofs.release_row.Given as goal

abbrev pub invariant-loop-j : goal.invariant-loop-j
invariant-loop-j l = record {
  steps : l.j-iterator.nexts.now ≡ l.fn.row.nexts.now;
  released : ReleaseLoop l.fn.row.nexts.now l.fn.row.at l.initial.counts l.counts l.j-iterator.at;
  window_holds : WindowHolds l.counts l.left.b l.left.at l.left.held;
  same_bound : l.left.b ≡ l.initial.left.b;
}
