use mathlib.Core.Path.{◌≡◌, sym, ◌∙◌}
use mathlib.Core.Bool.{◌&&◌}
use Prim.Native.Nat.{◌<◌}
use native.Mathlib.Omega.{arith}
use lib.Dec.{leb}
use lib.ListN.{length, get_or}
use Rattle.std.proofs.Common.{rules}
use Rattle.pieces.proofs.Unpacking.{piece_sized, halving_start, halving_next, high_zero, low_zero, halving_end}
use Rattle.pieces.proofs.is_piece.Goals as goal

pub returns-then-not-contains : goal.returns-then-not-contains
returns-then-not-contains c =
    let n = length c.args.payload.now in
    let e : c.contains.result ≡ (leb 1 n && leb n 64) = search rules in
    sym (piece_sized c.args.payload.now (sym e ∙ c.if-not-contains.true))

pub loop-i-init : goal.loop-i-init
loop-i-init c =
    let n = length c.args.payload.now in
    let e : c.contains.result ≡ (leb 1 n && leb n 64) = search rules in
    halving_start c.args.payload.now (sym e ∙ c.if-not-contains.false)

pub returns-then-halves-eq0 : goal.returns-then-halves-eq0
returns-then-halves-eq0 c =
    let small : get_or c.args.payload.now c.loop-i.i 0 < 256 = omega (arith, c.type_inv.payload c.loop-i.i) in
    sym (high_zero c.args.payload.now c.loop-i.i _ _ c.loop-i-test.true small c.split-halves.ensures.0 c.split-halves.ensures.1 c.loop-i.invariant c.if-halves-eq0.true)

pub returns-then-halves-eq0-2 : goal.returns-then-halves-eq0-2
returns-then-halves-eq0-2 c =
    let small : get_or c.args.payload.now c.loop-i.i 0 < 256 = omega (arith, c.type_inv.payload c.loop-i.i) in
    sym (low_zero c.args.payload.now c.loop-i.i _ _ c.loop-i-test.true small c.split-halves.ensures.0 c.split-halves.ensures.1 c.loop-i.invariant
    c.if-halves-eq0.false c.if-halves-eq0-2.true)

pub loop-i-preserved : goal.loop-i-preserved
loop-i-preserved c =
    let small : get_or c.args.payload.now c.loop-i.i 0 < 256 = omega (arith, c.type_inv.payload c.loop-i.i) in
    halving_next c.args.payload.now c.loop-i.i _ _ c.loop-i-test.true small c.split-halves.ensures.0 c.split-halves.ensures.1 c.loop-i.invariant
    c.if-halves-eq0.false c.if-halves-eq0-2.false

pub returns : goal.returns
returns c =
    sym (halving_end _ _ c.loop-i-test.false c.loop-i.invariant)
