-- Every match has a heaviest weight, whatever the gap bound and the matches: those of the rows and columns up to its own are a list in order, and no
-- chain to it leaves them. Assumes nothing.
use mathlib.Core.Path.{◌≡◌, subst, subst⁻¹}
use mathlib.Core.Bool.{Bool}
use mathlib.Core.List.Memᴰ
use mathlib.Core.List.{List, [], map, Memᴰ, map-id}
use Prim.Native.Nat.{ℕ, suc, ◌-◌, ◌≤◌}
use native.Mathlib.Nat.{le_refl}
use native.Mathlib.Omega.{arith}
use lib.Dec.{T}
use Rattle.rules.specs.Matches.{Cell, cell, matches_to}
use Rattle.rules.specs.Chains.{Chain, one, more, Heaviest}
use Rattle.rules.specs.Records.{Record, records_from}
use Rattle.rules.specs.Listing.{Before, Ordered}
use Rattle.rules.proofs.LeftExtensions.{same_cell_lem, extend_facts}
use Rattle.rules.proofs.MatchList.{ordered_map, Inside, matches_in, matches_has, matches_ordered}
use Rattle.rules.proofs.Weights.{sweep_cells}
use Rattle.rules.proofs.Starts.{right_heaviest}
use Rattle.rules.proofs.Among.{among, among_in, among_has, records_right}

-- a chain is one of other matches too that hold those of its rows and columns
chain_within : {b : ℕ} {hit other : Cell → Bool} {p y : Cell} {n : ℕ} (last : Cell)
    → ((z : Cell) → z.row ≤ last.row → z.column ≤ last.column → T (hit z) → T (other z))
    → Chain b hit p y n → y.row ≤ last.row → y.column ≤ last.column → Chain b other p y n
chain_within {p = p} last f (one h) r q = one (f p r q h)
chain_within {b} last f (more {x = x} {y = y} c e h) r q =
    let g = extend_facts b x y e in
    more (chain_within last f c (omega (arith, g.row_le)) (omega (arith, g.column_le))) e (f y r q h)

-- rows and columns from 0 on, where a list of matches counts them from 1
abbrev back : Cell → Cell
back z = cell (z.row - 1) (z.column - 1)

back_is : (z : Cell) → back (cell (suc z.row) (suc z.column)) ≡ z
back_is z = same_cell_lem {y = z} (omega arith) (omega arith)

back_before : (x y : Cell) → 1 ≤ x.row → 1 ≤ x.column → 1 ≤ y.row → Before x y → Before (back x) (back y)
back_before x y p q r h = record { row_le = omega (arith, h.row_le); column_lt = λ e. omega (arith, h.column_lt (omega (arith, e))) }

module _ (b : ℕ) (hit : Cell → Bool) (y : Cell) where
  abbrev counted : Cell → Bool
  counted z = hit (back z)

  abbrev found : List Cell
  found = matches_to counted (suc y.column) (suc y.row)

  found_in : (z : Cell) → Memᴰ z found → Inside counted (suc y.column) (suc y.row) z
  found_in = matches_in counted (suc y.column) (suc y.row)

  -- the matches of its rows and columns
  abbrev cells : List Cell
  cells = map back found

  cells_in : (z : Cell) → Memᴰ z cells → T (hit z)
  cells_in z m = let (x, n, e) = Memᴰ.of_map back found m in subst (λ (v : Cell). T (hit v)) e (found_in x n).is_hit

  cells_has : (z : Cell) → z.row ≤ y.row → z.column ≤ y.column → T (hit z) → Memᴰ z cells
  cells_has z r q h =
      let next = cell (suc z.row) (suc z.column) in
      let t : T (counted next) = subst⁻¹ (λ (v : Cell). T (hit v)) (back_is z) h in
      subst (λ (v : Cell). Memᴰ v cells) (back_is z)
      (Memᴰ.map back
      (matches_has counted (suc y.column) (suc y.row) next
      (record { is_hit = t; row_from = omega arith; row_until = omega arith; column_from = omega arith; column_until = omega arith })))

  cells_ordered : Ordered cells
  cells_ordered =
      ordered_map (λ z. z) back found (λ u v mu mv. let h = found_in u mu in back_before u v h.row_from h.column_from (found_in v mv).row_from)
      (subst⁻¹ Ordered (map-id found) (matches_ordered counted (suc y.column) (suc y.row)))

  -- the record of y by these has its heaviest weight
  pub weighed : T (hit y) → (w : ℕ) × Heaviest b hit y w
  weighed t =
      let at : Memᴰ y (map (λ (r : Record). r.cell) (records_from b [] cells)) =
      subst⁻¹ (Memᴰ y) (sweep_cells b hit cells []) (cells_has y (le_refl _) (le_refl _) t) in
      let (x, m, e) = Memᴰ.of_map (λ (r : Record). r.cell) (records_from b [] cells) at in
      let h = subst (λ (z : Cell). Heaviest b (among cells) z x.weight) e (right_heaviest (records_right cells b cells_ordered x m)) in (
        x.weight,
        record {
          first = h.first;
          reached = chain_within y (λ z _ _ k. cells_in z (among_in cells z k)) h.reached (le_refl _) (le_refl _);
          greatest = λ p n c. h.greatest p n (chain_within y (λ z r q k. among_has cells z (cells_has z r q k)) c (le_refl _) (le_refl _));
        },
      )
