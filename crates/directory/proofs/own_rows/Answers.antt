use Prim.Native.Nat.{◌<◌}
use native.Mathlib.Omega.{arith}
use lib.ListN.{length}
use Rattle.directory.proofs.Neighbours.{rows_near, rows_found}
use Rattle.directory.proofs.own_rows.Goals as goal
use Rattle.directory.proofs.own_rows.Goals.{then-is_near, else-is_near}

pub loop-row-preserved : goal.loop-row-preserved
loop-row-preserved c =
    let room : c.loop-row.row < length c.loop-row.heads = omega (arith, c.loop-row-test.true, c.requires.rows_in_bounds, c.loop-row.invariant.owned.long) in
    elim c.if-is_near.branch [
      | then-is_near w ↦ rw (w.heads-is, w.near-is) (rows_near c.loop-row.invariant c.loop-row-test.true room c.requires.owned (rw w.if-is_near.true at c.is_near.ensures))
      | else-is_near w ↦ rw (w.heads-is, w.near-is) (rows_found c.loop-row.invariant c.loop-row-test.true room c.args.directory.few w.owner_of-owner.ensures w.next_near-near.ensures)
    ]
