use mathlib.Core.Path.{refl, sym, ◌∙◌}
use native.Mathlib.Omega.{arith}
use Rattle.sweep.proofs.Sweeping.{Left, sweep_start, left_released, left_none, sweep_next}
use Rattle.sweep.proofs.sweep.Goals as goal
use Rattle.sweep.proofs.sweep.Goals.{then-leaves, else-leaves}

pub loop-p-init : goal.loop-p-init
loop-p-init c =
    record { same_ring = refl; same_bound = refl; swept = sweep_start c.requires.sweep_safe c.requires.none_latest }

pub loop-p-preserved : goal.loop-p-preserved
loop-p-preserved c =
    let v = c.loop-p.invariant in
    let held = c.loop-p.held in
    let after = c.if-leaves in
    let left : Left c.args.walk.firsts.now c.args.walk.nexts.now c.args.ring c.args.c c.loop-p.room c.loop-p.latest c.loop-p.list held.tail held.head held.from c.loop-p.listed c.loop-p.p after.list after.released.tail after.released.listed =
    elim after.branch [
      | then-leaves w ↦ rw (w.list-is, w.released-is)
          (left_released c.requires.sweep_safe c.requires.none_latest v.swept (omega arith) (rw v.same_ring at w.release-released.ensures))
      | else-leaves w ↦ rw (w.list-is, w.released-is)
          (left_none c.requires.sweep_safe c.requires.none_latest v.swept (omega arith) v.same_bound (sym c.leaves.ensures ∙ w.if-leaves.false))
    ] in
    record {
      same_ring = v.same_ring;
      same_bound = v.same_bound;
      swept = sweep_next c.requires.sweep_safe c.requires.none_latest v.swept (omega arith) c.row.ensures.begins left c.store_row-head.auto.room
          c.store_row-head.auto.latest v.same_bound (rw (v.same_ring, c.row.ensures.nexts) at c.store_row-head.ensures) c.later_from.ensures;
    }
