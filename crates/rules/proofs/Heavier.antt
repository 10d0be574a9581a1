-- CR 3, the theorem that the rest of Farther.antt is derived from: of two left extensions of one match the farther weighs more. Of any gap bound and any
-- matches. Assumes nothing.
use mathlib.Core.Path.{◌≡◌}
use mathlib.Core.Bool.{Bool}
use Prim.Native.Nat.{ℕ, suc, ◌+◌, ◌≤◌, ◌<◌}
use native.Mathlib.Omega.{arith}
use Rattle.rules.specs.Matches.{Cell}
use Rattle.rules.specs.Chains.{more, Heaviest, LeftExtension, AtOrBeyond}
use Rattle.rules.proofs.LeftExtensions.{Extends, extend_facts, facts_extend, same_cell_lem}

module _ {b : ℕ} {hit : Cell → Bool} {c x y : Cell} (lx : LeftExtension b hit c x) (ly : LeftExtension b hit c y) where
  -- both lie within b of c, so the nearer is a left extension of the farther: a chain to it goes on there
  pub farther_heavier : ¬ (x ≡ y) → AtOrBeyond x y → {v w : ℕ} → Heaviest b hit x v → Heaviest b hit y w → v < w
  farther_heavier two far {v} {w} hx hy =
      let ex = extend_facts _ x c lx.extends in
      let ey = extend_facts _ y c ly.extends in
      let apart : ¬ (y.row + y.column ≤ x.row + x.column) = λ g. two (same_cell_lem (omega (arith, far)) (omega (arith, far))) in
      let e : Extends b x y =
      record {
        row_le = omega (arith, far);
        row_near = omega (arith, ex, ey);
        column_le = omega (arith, far);
        column_near = omega (arith, ex, ey);
        moved = omega arith;
      } in
      let goes_on = hy.greatest hx.first (suc v) (more hx.reached (facts_extend b x y e) ly.is_a_match) in
      omega arith
