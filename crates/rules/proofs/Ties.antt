-- The tie rule is a strict order, and what is picked comes first in it. Assumes nothing.
use mathlib.Core.Path.{◌≡◌, subst, subst⁻¹}
use mathlib.Core.Logic.{◌⊎◌, inl, inr}
use mathlib.Core.Bool.{true, false, cond}
use mathlib.Core.Option.{Option, none, some}
use mathlib.Core.List.{List, [], ◌∷◌, Memᴰ}
use Prim.Native.Nat.{ℕ, ◌≤◌, ◌<◌}
use native.Mathlib.Omega.{arith}
use lib.Dec.{T, ltb}
use Rattle.rules.specs.Matches.{Cell}
use Rattle.rules.specs.Chains.{left_extension}
use Rattle.rules.specs.Records.{Record, beats, better, pick}
use Rattle.rules.proofs.Tests.{tests, by_test, tested, T_true, T_false}

-- x is the predecessor before y, by its three reasons
pub data Beats (x y : Record) : Type 0 where
  by_weight : y.weight < x.weight → Beats x y
  by_column : x.weight ≡ y.weight → x.cell.column < y.cell.column → Beats x y
  by_row : x.weight ≡ y.weight → x.cell.column ≡ y.cell.column → x.cell.row < y.cell.row → Beats x y

pub beats_is : (x y : Record) → T (beats x y) → Beats x y
unfolding beats
beats_is x y t = go (tested (ltb y.weight x.weight)) (tested (ltb x.cell.column y.cell.column))
  where
    h : ¬ (y.weight < x.weight) → (x.weight ≡ y.weight)
        × (¬ (x.cell.column < y.cell.column) → (x.cell.column ≡ y.cell.column) × (x.cell.row < y.cell.row))
    h = simp (beats, tests) at t

    go : T (ltb y.weight x.weight) ⊎ (¬ T (ltb y.weight x.weight))
        → T (ltb x.cell.column y.cell.column) ⊎ (¬ T (ltb x.cell.column y.cell.column)) → Beats x y
    go (inl p) q = by_weight (simp tests at p)
    go (inr p) (inl q) = by_column (h (simp tests at p)).0 (simp tests at q)
    go (inr p) (inr q) =
        let k = h (simp tests at p) in
        let l = k.1 (simp tests at q) in
        by_row k.0 l.0 l.1

pub is_beats : (x y : Record) → Beats x y → T (beats x y)
unfolding beats
is_beats x y (by_weight h) = simp (beats, tests) (omega arith)
is_beats x y (by_column h g) = simp (beats, tests) (omega arith)
is_beats x y (by_row h g k) = simp (beats, tests) (omega arith)

-- an order on records
Beats_trans : (x y z : Record) → Beats x y → Beats y z → Beats x z
Beats_trans x y z (by_weight p) (by_weight q) = by_weight (omega arith)
Beats_trans x y z (by_weight p) (by_column q r) = by_weight (omega arith)
Beats_trans x y z (by_weight p) (by_row q r u) = by_weight (omega arith)
Beats_trans x y z (by_column p v) (by_weight q) = by_weight (omega arith)
Beats_trans x y z (by_column p v) (by_column q r) = by_column (omega arith) (omega arith)
Beats_trans x y z (by_column p v) (by_row q r u) = by_column (omega arith) (omega arith)
Beats_trans x y z (by_row p v w) (by_weight q) = by_weight (omega arith)
Beats_trans x y z (by_row p v w) (by_column q r) = by_column (omega arith) (omega arith)
Beats_trans x y z (by_row p v w) (by_row q r u) = by_row (omega arith) (omega arith) (omega arith)

pub beats_trans : (x y z : Record) → T (beats x y) → T (beats y z) → T (beats x z)
beats_trans x y z s t = is_beats x z (Beats_trans x y z (beats_is x y s) (beats_is y z t))

pub beats_irrefl : (x : Record) → ¬ T (beats x x)
beats_irrefl x t = go (beats_is x x t)
  where
    go : Beats x x → ⊥
    go (by_weight h) = omega arith
    go (by_column h g) = omega arith
    go (by_row h g k) = omega arith

-- ---- none of the left extensions is before the one that is picked

-- x is not before what is picked, and something is picked
abbrev pub Under : Record → Option Record → Type 0
Under x none = ⊥
Under x (some y) = ¬ T (beats x y)

pub better_new : (o : Option Record) (x : Record) → Under x (better o x)
unfolding better
better_new none x = beats_irrefl x
better_new (some y) x = by_test (Under x) (beats x y) (some x) (some y) (λ _. beats_irrefl x) (λ f. f)

pub better_old : (o : Option Record) (x z : Record) → Under z o → Under z (better o x)
unfolding better
better_old none x z u = absurd u
better_old (some y) x z u = by_test (Under z) (beats x y) (some x) (some y) (λ t k. u (beats_trans z x y k t)) (λ _. u)

module _ (b : ℕ) (c : Cell) where
  pick_old : (xs : List Record) (o : Option Record) (z : Record) → Under z o → Under z (pick b c o xs)
  unfolding pick
  pick_old [] o z u = u
  pick_old (x ∷ xs) o z u =
      pick_old xs (cond (left_extension b x.cell c) (better o x) o) z
      (by_test (Under z) (left_extension b x.cell c) (better o x) o (λ _. better_old o x z u) (λ _. u))

  pub pick_first : (z : Record) (xs : List Record) (o : Option Record) → Memᴰ z xs → T (left_extension b z.cell c) → Under z (pick b c o xs)
  unfolding pick
  pick_first z xs o (Memᴰ.head {x = x} {xs = ys} e) t =
      pick_old ys (cond (left_extension b x.cell c) (better o x) o) z
      (by_test (Under z) (left_extension b x.cell c) (better o x) o (λ _. subst⁻¹ (λ (w : Record). Under w (better o x)) e (better_new o x))
      (λ f. absurd (f (subst (λ (w : Record). T (left_extension b w.cell c)) e t))))
  pick_first z xs o (Memᴰ.tail {x = x} {xs = ys} m) t = pick_first z ys (cond (left_extension b x.cell c) (better o x) o) m t

-- the test's value from the facts
pub beats_true : (x y : Record) → Beats x y → beats x y ≡ true
beats_true x y h = T_true (beats x y) (is_beats x y h)

pub beats_false : (x y : Record) → x.weight ≤ y.weight → (x.weight ≡ y.weight → y.cell.column ≤ x.cell.column)
    → (x.weight ≡ y.weight → x.cell.column ≡ y.cell.column → y.cell.row ≤ x.cell.row) → beats x y ≡ false
beats_false x y h g k = T_false (beats x y) (λ t. go (beats_is x y t))
  where
    go : Beats x y → ⊥
    go (by_weight p) = omega arith
    go (by_column p q) = omega (arith, g p)
    go (by_row p q r) = omega (arith, k p q)
