use Prim.Native.Nat.{◌+◌, ◌<◌}
use native.Mathlib.Omega.{arith}
use lib.ListN.{get_or}
use Rattle.payloads.proofs.Numbers.{gathering_start, gathering_fits, gathering_next}
use Rattle.payloads.proofs.number_at.Goals as goal

pub loop-i-init : goal.loop-i-init
loop-i-init c =
    gathering_start _ _ _

pub overflow_mul-x : goal.overflow_mul-x
overflow_mul-x c =
    omega (arith, gathering_fits _ _ _ _ _ 0 c.requires.width_bound c.loop-i-test.true (omega arith) c.loop-i.invariant)

pub overflow_add-x : goal.overflow_add-x
overflow_add-x c =
    let b : get_or c.args.bytes.now (c.args.at + c.loop-i.i) 0 < 256 =
    omega (arith, c.type_inv.bytes (c.args.at + c.loop-i.i)) in
    omega (arith, gathering_fits _ _ _ _ _ _ c.requires.width_bound c.loop-i-test.true b c.loop-i.invariant)

pub loop-i-preserved : goal.loop-i-preserved
loop-i-preserved c =
    let b : get_or c.args.bytes.now (c.args.at + c.loop-i.i) 0 < 256 =
    omega (arith, c.type_inv.bytes (c.args.at + c.loop-i.i)) in
    rw c.from.ensures (gathering_next _ _ _ _ _ c.loop-i-test.true b c.loop-i.invariant)
