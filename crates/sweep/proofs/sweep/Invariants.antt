-- `sweep::sweep` meets its contract: after p rows the state is that of p rows, whatever matches the slices describe. Assumes nothing.
use mathlib.Core.Path.{◌≡◌}
use Rattle.sweep.proofs.Sweeping.{SweepInv}
use Rattle.sweep.proofs.sweep.Given as goal

abbrev pub invariant-loop-p : goal.invariant-loop-p
invariant-loop-p l = record {
  same_ring : l.held.ring ≡ l.fn.ring;
  same_bound : l.held.b ≡ l.c.b;
  swept : SweepInv l.walk.firsts.now l.walk.nexts.now l.initial.room l.initial.latest l.initial.list l.fn.ring l.c l.room l.latest l.list l.held.tail l.held.head
      l.held.from l.listed l.p;
}
