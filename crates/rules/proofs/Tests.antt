-- A test of numbers and what it says: `simp tests at t` turns a passed test into facts, `simp tests p` proves a test by them. Assumes nothing.
use mathlib.Core.Path.{◌≡◌, refl, subst}
use mathlib.Core.Logic.{◌⊎◌, inl, inr, ◌↔◌}
use mathlib.Core.Bool.{Bool, true, false, cond, ◌&&◌, ◌||◌, not}
use Prim.Native.Nat.{ℕ, suc, ◌≤◌, ◌<◌}
use native.Mathlib.Omega.{arith}
use lib.Dec.{T, leb, eqb, leb→le, le→leb, eqb→eq, eqb_refl}

pub T_and : (a b : Bool) → T (a && b) ↔ (T a × T b)
T_and true b = (λ t. (tt, t), λ p. p.1)
T_and false b = (λ t. absurd t, λ p. p.0)

-- an implication and no sum, since `simp` goes on into it and `omega` proves it
pub T_or : (a b : Bool) → T (a || b) ↔ (¬ T a → T b)
T_or true b = (λ t n. absurd (n tt), λ _. tt)
T_or false b = (λ t _. t, λ f. f (λ t. t))

pub T_not : (a : Bool) → T (not a) ↔ (¬ T a)
T_not true = (λ t _. t, λ f. f tt)
T_not false = (λ _ t. t, λ _. tt)

pub T_leb : (m n : ℕ) → T (leb m n) ↔ (m ≤ n)
T_leb m n = (leb→le m n, le→leb m n)

pub T_eqb : (m n : ℕ) → T (eqb m n) ↔ (m ≡ n)
T_eqb m n = (eqb→eq m n, λ e. subst (λ (x : ℕ). T (eqb m x)) e (eqb_refl m))

-- `ltb m n` is `leb (suc m) n`, so `T_leb` does for both
pub ruleset tests = (T_and, T_or, T_not, T_leb, T_eqb)

-- a choice by a test, by its two cases
pub by_test {ℓ} : {A : Type ℓ} (Q : A → Type 0) (t : Bool) (x y : A) → (T t → Q x) → (¬ T t → Q y) → Q (cond t x y)
by_test Q true x y f g = f tt
by_test Q false x y f g = g (λ t. t)

-- a test passes, or it does not
pub tested : (t : Bool) → T t ⊎ (¬ T t)
tested true = inl tt
tested false = inr (λ t. t)

-- up to j, or the next
pub to_suc : (k j : ℕ) → k ≤ suc j → (k ≤ j) ⊎ (k ≡ suc j)
to_suc k j h = go (tested (leb k j))
  where
    go : T (leb k j) ⊎ (¬ T (leb k j)) → (k ≤ j) ⊎ (k ≡ suc j)
    go (inl t) = inl (leb→le k j t)
    go (inr f) = let g = simp T_leb at f in inr (omega arith)

-- a test's value from what it says
pub T_true : (t : Bool) → T t → t ≡ true
T_true true h = refl
T_true false h = absurd h

pub T_false : (t : Bool) → ¬ T t → t ≡ false
T_false true h = absurd (h tt)
T_false false h = refl

-- two tests that say the same are equal
pub same_test : (s t : Bool) → (T s → T t) → (T t → T s) → s ≡ t
same_test true true f g = refl
same_test true false f g = absurd (f tt)
same_test false true f g = absurd (g tt)
same_test false false f g = refl

pub and_false : (t : Bool) → t && false ≡ false
and_false true = refl
and_false false = refl

-- below, equal or above
pub data Three (m n : ℕ) : Type 0 where
  below : m < n → Three m n
  equal : m ≡ n → Three m n
  above : n < m → Three m n

pub three : (m n : ℕ) → Three m n
three m n = go (tested (leb m n)) (tested (leb n m))
  where
    go : T (leb m n) ⊎ (¬ T (leb m n)) → T (leb n m) ⊎ (¬ T (leb n m)) → Three m n
    go (inl p) (inl q) = let g = simp tests at p in let h = simp tests at q in equal (omega arith)
    go (inl p) (inr q) = let h = simp tests at q in below (omega arith)
    go (inr p) q = let g = simp tests at p in above (omega arith)
