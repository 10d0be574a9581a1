-- CR 3: of two left extensions of one match the farther weighs more (Heavier.antt), so that their rows never decide between them; what follows of
-- columns, rows and the predecessor. Of any gap bound and any matches. Assumes nothing.
use mathlib.Core.Path.{◌≡◌, refl, sym, ap, subst}
use mathlib.Core.Logic.{◌⊎◌, inl, inr, ◌↔◌}
use mathlib.Core.Bool.{Bool}
use mathlib.Core.List.{List, Memᴰ}
use Prim.Native.Nat.{ℕ, suc, ◌+◌, ◌≤◌, ◌<◌}
use native.Mathlib.Omega.{arith}
use lib.Dec.{T}
use Rattle.rules.specs.declared.Settings.{Settings}
use Rattle.rules.specs.Matches.{Cell, cell, is_match}
use Rattle.rules.specs.Chains.{Heaviest, Preferred, heavier, smaller_column, smaller_row, same_one, Predecessor, LeftExtension}
use Rattle.rules.specs.Chains.{AtOrBeyond, PreferredByColumn, weighs_more, lies_left, is_itself, PredecessorByColumn}
use Rattle.rules.specs.Records.{Record}
use Rattle.rules.specs.Rooms.{held, Held}
use Rattle.rules.proofs.Tests.{Three, three, below, equal, above}
use Rattle.rules.proofs.LeftExtensions.{facts_extend, same_cell_lem}
use Rattle.rules.proofs.Heavier.{farther_heavier}
use Rattle.rules.proofs.Abreast.{abreast}
use Rattle.rules.proofs.Weighed.{weighed}
use Rattle.rules.proofs.Listings.{held_in}

-- ---- two left extensions, each with its weight

module _ {b : ℕ} {hit : Cell → Bool} {c x y : Cell} (lx : LeftExtension b hit c x) (ly : LeftExtension b hit c y)
    {v w : ℕ} (hx : Heaviest b hit x v) (hy : Heaviest b hit y w) where
  -- the nearer is the farther, or weighs less
  pub overtaken : AtOrBeyond x y → (v < w) ⊎ (x ≡ y)
  overtaken far = go (three (x.row + x.column) (y.row + y.column))
    where
      go : Three (x.row + x.column) (y.row + y.column) → (v < w) ⊎ (x ≡ y)
      go (below h) = inl (farther_heavier lx ly (λ e. omega (arith, ap (λ (z : Cell). z.row + z.column) e)) far hx hy)
      go (equal h) = inr (same_cell_lem (omega (arith, far)) (omega (arith, far)))
      go (above h) = absurd (omega (arith, far))

  -- in one column the latest row is the heaviest
  pub latest_row : x.column ≡ y.column → x.row ≤ y.row → (v < w) ⊎ (x ≡ y)
  latest_row e h = overtaken (record { rows = h; columns = omega arith })

  -- in one row the nearest on the left is the heaviest
  pub nearest_column : x.row ≡ y.row → x.column ≤ y.column → (v < w) ⊎ (x ≡ y)
  nearest_column e h = overtaken (record { rows = omega arith; columns = h })

  -- and the one in the smaller column has the larger row
  pub larger_row : v ≡ w → x.column < y.column → y.row < x.row
  larger_row e h =
      let lower : ¬ (x.row ≤ y.row) = λ g. abreast lx ly hx hy e (λ k. omega (arith, ap (λ (z : Cell). z.column) k)) (record { rows = g; columns = omega arith }) in
      omega arith

-- ---- the second tie rule

module _ {b : ℕ} {hit : Cell → Bool} {c x y : Cell} (lx : LeftExtension b hit c x) (ly : LeftExtension b hit c y) where
  -- two with equal weights never share a column
  pub columns_apart : ¬ (x ≡ y) → {w : ℕ} → Heaviest b hit x w → Heaviest b hit y w → ¬ (x.column ≡ y.column)
  columns_apart two hx hy e = go (three x.row y.row)
    where
      go : Three x.row y.row → ⊥
      go (below h) = abreast lx ly hx hy refl two (record { rows = omega arith; columns = omega arith })
      go (equal h) = two (same_cell_lem h e)
      go (above h) = abreast ly lx hy hx refl (λ k. two (sym k)) (record { rows = omega arith; columns = omega arith })

  -- so the smaller row never decides
  pub by_column : {w v : ℕ} → Heaviest b hit x w → Heaviest b hit y v → Preferred x w y v → PreferredByColumn x w y v
  by_column hx hy (heavier h) = weighs_more h
  by_column hx hy (smaller_column e h) = lies_left e (omega arith)
  by_column hx hy (smaller_row e k h) =
      absurd (columns_apart (λ q. omega (arith, ap (λ (z : Cell). z.row) q)) hx (subst (Heaviest b hit y) e hy) k)
  by_column hx hy (same_one er ec) = is_itself (same_cell_lem er ec)

pub preferred_by_column : {x y : Cell} {w v : ℕ} → PreferredByColumn x w y v → Preferred x w y v
preferred_by_column (weighs_more h) = heavier h
preferred_by_column (lies_left e h) = smaller_column e (omega arith)
preferred_by_column (is_itself e) = same_one (ap (λ (z : Cell). z.row) e) (ap (λ (z : Cell). z.column) e)

module _ {b : ℕ} {hit : Cell → Bool} {c x : Cell} where
  predecessor_left : Predecessor b hit c x → LeftExtension b hit c x
  predecessor_left p = record { is_a_match = p.is_a_match; extends = p.is_left }

  -- without it the predecessor is the same
  pub row_left_out : Predecessor b hit c x ↔ PredecessorByColumn b hit c x
  row_left_out = (
    λ p. record {
      left = predecessor_left p;
      weight = p.weight;
      heaviest = p.heaviest;
      first = λ y v ly hy. by_column (predecessor_left p) ly p.heaviest hy (p.first y v ly.is_a_match ly.extends hy);
    },
    λ p. record {
      is_a_match = p.left.is_a_match;
      is_left = p.left.extends;
      weight = p.weight;
      heaviest = p.heaviest;
      first = λ y v t e hy. preferred_by_column (p.first y v (record { is_a_match = t; extends = e }) hy);
    },
  )

-- ---- the predecessor

module _ {b : ℕ} {hit : Cell → Bool} {c x y : Cell} (p : Predecessor b hit c x) (ly : LeftExtension b hit c y) where
  -- a left extension at or before another in both sequences is never the predecessor
  pub not_overtaken : ¬ (x ≡ y) → ¬ AtOrBeyond x y
  not_overtaken two far =
      let (w, hy) = weighed b hit y ly.is_a_match in
      lighter (farther_heavier (predecessor_left p) ly two far p.heaviest hy) (p.first y w ly.is_a_match ly.extends hy)
    where
      lighter : {w : ℕ} → p.weight < w → Preferred x p.weight y w → ⊥
      lighter h (heavier g) = omega arith
      lighter h (smaller_column e g) = omega arith
      lighter h (smaller_row e k g) = omega arith
      lighter h (same_one er ec) = two (same_cell_lem er ec)

  -- of the matches of one row only the nearest on the left can be
  pub nearest_of_row : x.row ≡ y.row → y.column ≤ x.column
  nearest_of_row e =
      let none-nearer : ¬ (x.column < y.column) = λ h.
      not_overtaken (λ q. omega (arith, ap (λ (z : Cell). z.column) q)) (record { rows = omega arith; columns = omega arith }) in
      omega arith

-- ---- what a sweep holds after a row

module _ (c : Settings) (first second : List ℕ) (r : ℕ) (x y : Record) (mx : Memᴰ x (held c first second r))
    (my : Memᴰ y (held c first second r)) where
  -- both are left extensions of the cell on the right of the later, a match or not
  pub latest_held : x.cell.column ≡ y.cell.column → x.cell.row ≤ y.cell.row → (x.weight < y.weight) ⊎ (x.cell ≡ y.cell)
  latest_held e h = go (three x.cell.row y.cell.row)
    where
      hx : Held c first second r x.cell x.start x.weight
      hx = held_in c first second r x mx

      hy : Held c first second r y.cell y.start y.weight
      hy = held_in c first second r y my

      right : Cell
      right = cell y.cell.row (suc y.cell.column)

      beside : (z : Cell) → T (is_match c first second z) → z.row ≤ y.cell.row → y.cell.row ≤ z.row + c.b → z.column ≡ y.cell.column → 1 ≤ c.b
          → LeftExtension c.b (is_match c first second) right z
      beside z t over near k some =
          record {
            is_a_match = t;
            extends =
                facts_extend c.b z right
                (record { row_le = over; row_near = near; column_le = omega arith; column_near = omega arith; moved = omega arith });
          }

      go : Three x.cell.row y.cell.row → (x.weight < y.weight) ⊎ (x.cell ≡ y.cell)
      go (below g) =
          let near : y.cell.row ≤ x.cell.row + c.b = omega (arith, hx.from, hy.to) in
          latest_row (beside x.cell hx.is_a_match h near e (omega arith)) (beside y.cell hy.is_a_match (omega arith) (omega arith) refl (omega arith))
          hx.weight hy.weight e h
      go (equal g) = inr (same_cell_lem g e)
      go (above g) = absurd (omega arith)
