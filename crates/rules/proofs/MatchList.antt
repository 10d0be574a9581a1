-- The list of matches holds exactly the cells that are matches, by row, then column: each clause of its recursion adds one cell. Assumes nothing.
use mathlib.Core.Path.{◌≡◌, refl, ap, subst, subst⁻¹}
use mathlib.Core.Logic.{◌⊎◌, inl, inr}
use mathlib.Core.Bool.{Bool, cond}
use mathlib.Core.List.Memᴰ
use mathlib.Core.List.{List, [], ◌∷◌, ◌++◌, map, Memᴰ}
use Prim.Native.Nat.{ℕ, zero, suc, ◌≤◌}
use native.Mathlib.Nat.{le_trans, not-suc-le-zero}
use native.Mathlib.Omega.{arith}
use lib.Dec.{T}
use Rattle.rules.specs.Matches.{Cell, cell, row_to, matches_to}
use Rattle.rules.specs.Listing.{Before, Ordered}
use Rattle.rules.proofs.Tests.{by_test, to_suc}

pub ordered_append : (xs ys : List Cell) → Ordered xs → Ordered ys
    → ((x y : Cell) → Memᴰ x xs → Memᴰ y ys → Before x y) → Ordered (xs ++ ys)
ordered_append [] ys o p h = p
ordered_append (x ∷ xs) ys o p h =
    (λ y m. go y (Memᴰ.append_cases xs m), ordered_append xs ys o.1 p (λ u v m. h u v (Memᴰ.tail m)))
  where
    go : (y : Cell) → Memᴰ y xs ⊎ Memᴰ y ys → Before x y
    go y (inl m) = o.0 y m
    go y (inr m) = h x y (Memᴰ.head refl) m

-- what stands in order does so too where each element is read as another cell, if that keeps which stands before which
pub ordered_map : {A : Type 0} (f g : A → Cell) (xs : List A) → ((x y : A) → Memᴰ x xs → Memᴰ y xs → Before (f x) (f y) → Before (g x) (g y))
    → Ordered (map f xs) → Ordered (map g xs)
ordered_map f g [] h o = tt
ordered_map {A} f g (x ∷ xs) h o =
    (λ y m. go y (Memᴰ.of_map g xs m), ordered_map f g xs (λ u v m n. h u v (Memᴰ.tail m) (Memᴰ.tail n)) o.1)
  where
    go : (y : Cell) → (z : A) × Memᴰ z xs × (g z ≡ y) → Before (g x) y
    go y (z, m, e) = subst (Before (g x)) e (h x z (Memᴰ.head refl) (Memᴰ.tail m) (o.0 (f z) (Memᴰ.map f m)))

module _ (hit : Cell → Bool) where
  -- what a place of a row adds
  abbrev here : Cell → List Cell
  here c = cond (hit c) (c ∷ []) []

  here_in : (c y : Cell) → Memᴰ y (here c) → T (hit c) × (y ≡ c)
  here_in c y = by_test (λ (l : List Cell). Memᴰ y l → T (hit c) × (y ≡ c)) (hit c) (c ∷ []) []
      (λ t m. (t, Memᴰ.eq_of_singleton m)) (λ _ m. absurd (Memᴰ.not-nil m))

  here_has : (c : Cell) → T (hit c) → Memᴰ c (here c)
  here_has c t = by_test (λ (l : List Cell). Memᴰ c l) (hit c) (c ∷ []) [] (λ _. Memᴰ.head refl) (λ f. absurd (f t))

  here_ordered : (c : Cell) → Ordered (here c)
  here_ordered c = by_test Ordered (hit c) (c ∷ []) [] (λ _. (λ y m. absurd (Memᴰ.not-nil m), tt)) (λ _. tt)

  -- a match of row i, in columns 1 to j
  pub record InRow (i j : ℕ) (y : Cell) : Type 0 where
    pub is_hit : T (hit y)
    pub row_is : y.row ≡ i
    pub column_from : 1 ≤ y.column
    pub column_until : y.column ≤ j

  pub row_in : (i j : ℕ) (y : Cell) → Memᴰ y (row_to hit i j) → InRow i j y
  unfolding row_to
  row_in i zero y m = absurd (Memᴰ.not-nil m)
  row_in i (suc j) y m = go (row_in i j y) (Memᴰ.append_cases (row_to hit i j) m)
    where
      go : (Memᴰ y (row_to hit i j) → InRow i j y) → Memᴰ y (row_to hit i j) ⊎ Memᴰ y (here (cell i (suc j))) → InRow i (suc j) y
      go ih (inl n) =
          let h = ih n in record { is_hit = h.is_hit; row_is = h.row_is; column_from = h.column_from; column_until = omega (arith, h) }
      go ih (inr n) =
          let (t, q) = here_in (cell i (suc j)) y n in
          record {
            is_hit = subst⁻¹ (λ (w : Cell). T (hit w)) q t;
            row_is = ap (λ (w : Cell). w.row) q;
            column_from = omega (arith, ap (λ (w : Cell). w.column) q);
            column_until = omega (arith, ap (λ (w : Cell). w.column) q);
          }

  pub row_has : (i j k : ℕ) → T (hit (cell i k)) → 1 ≤ k → k ≤ j → Memᴰ (cell i k) (row_to hit i j)
  unfolding row_to
  row_has i zero k t h g = absurd (not-suc-le-zero (le_trans h g))
  row_has i (suc j) k t h g = go (row_has i j k t h) (to_suc k j g)
    where
      go : (k ≤ j → Memᴰ (cell i k) (row_to hit i j)) → (k ≤ j) ⊎ (k ≡ suc j) → Memᴰ (cell i k) (row_to hit i j ++ here (cell i (suc j)))
      go ih (inl l) = Memᴰ.append_left _ (ih l)
      go ih (inr q) =
          Memᴰ.append_right (row_to hit i j)
          (Memᴰ.cast (ap (cell i) q) (here_has (cell i (suc j)) (subst (λ (n : ℕ). T (hit (cell i n))) q t)))

  pub row_ordered : (i j : ℕ) → Ordered (row_to hit i j)
  unfolding row_to
  row_ordered i zero = tt
  row_ordered i (suc j) =
      ordered_append (row_to hit i j) (here (cell i (suc j))) (row_ordered i j) (here_ordered (cell i (suc j)))
      (λ x y m n. let h = row_in i j x m in
      let q = (here_in (cell i (suc j)) y n).1 in
      let r : y.row ≡ i = ap (λ (w : Cell). w.row) q in
      let c : y.column ≡ suc j = ap (λ (w : Cell). w.column) q in
      record { row_le = omega (arith, h.row_is); column_lt = λ _. omega (arith, h.column_until) })

  module _ (columns : ℕ) where
    -- a match in rows 1 to i and the columns
    pub record Inside (i : ℕ) (y : Cell) : Type 0 where
      pub is_hit : T (hit y)
      pub row_from : 1 ≤ y.row
      pub row_until : y.row ≤ i
      pub column_from : 1 ≤ y.column
      pub column_until : y.column ≤ columns

    pub matches_in : (i : ℕ) (y : Cell) → Memᴰ y (matches_to hit columns i) → Inside i y
    unfolding matches_to
    matches_in zero y m = absurd (Memᴰ.not-nil m)
    matches_in (suc i) y m = go (matches_in i y) (Memᴰ.append_cases (matches_to hit columns i) m)
      where
        go : (Memᴰ y (matches_to hit columns i) → Inside i y)
            → Memᴰ y (matches_to hit columns i) ⊎ Memᴰ y (row_to hit (suc i) columns) → Inside (suc i) y
        go ih (inl n) =
            let h = ih n in
            record { is_hit = h.is_hit; row_from = h.row_from; row_until = omega (arith, h); column_from = h.column_from; column_until = h.column_until }
        go ih (inr n) =
            let h = row_in (suc i) columns y n in
            record { is_hit = h.is_hit; row_from = omega (arith, h); row_until = omega (arith, h); column_from = h.column_from; column_until = h.column_until }

    pub matches_has : (i : ℕ) (y : Cell) → Inside i y → Memᴰ y (matches_to hit columns i)
    unfolding matches_to
    matches_has zero y h = absurd (not-suc-le-zero (le_trans h.row_from h.row_until))
    matches_has (suc i) y h = go (matches_has i y) (to_suc y.row i h.row_until)
      where
        go : (Inside i y → Memᴰ y (matches_to hit columns i)) → (y.row ≤ i) ⊎ (y.row ≡ suc i)
            → Memᴰ y (matches_to hit columns i ++ row_to hit (suc i) columns)
        go ih (inl l) =
            Memᴰ.append_left _
            (ih (record { is_hit = h.is_hit; row_from = h.row_from; row_until = l; column_from = h.column_from; column_until = h.column_until }))
        go ih (inr q) =
            Memᴰ.append_right (matches_to hit columns i)
            (subst (λ (n : ℕ). Memᴰ y (row_to hit n columns)) q (row_has y.row columns y.column h.is_hit h.column_from h.column_until))

    pub matches_ordered : (i : ℕ) → Ordered (matches_to hit columns i)
    unfolding matches_to
    matches_ordered zero = tt
    matches_ordered (suc i) =
        ordered_append (matches_to hit columns i) (row_to hit (suc i) columns) (matches_ordered i) (row_ordered (suc i) columns)
        (λ x y m n. let h = matches_in i x m in
        let g = row_in (suc i) columns y n in
        record { row_le = omega (arith, h.row_until, g.row_is); column_lt = λ q. absurd (omega (arith, h.row_until, g.row_is)) })
