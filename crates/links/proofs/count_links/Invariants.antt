-- `links::count_links` meets its contract: after p rows their matches are counted in their columns, but for the rows released, and their
-- links are the total; the window that was summed last is held. Assumes nothing.
use Rattle.std.proofs.Common.{◌≡◌}
use Rattle.windows.specs.Windows.{WindowHolds}
use Rattle.links.proofs.Links.{LinkLoop}
use Rattle.links.proofs.count_links.Given as goal

abbrev pub invariant-loop-p : goal.invariant-loop-p
invariant-loop-p l = record {
  linked : LinkLoop l.walk.firsts.now l.walk.nexts.now l.b l.counts l.links.total l.p;
  window_holds : WindowHolds l.counts l.links.window.b l.links.window.at l.links.window.held;
  same_bound : l.links.window.b ≡ l.b;
}
