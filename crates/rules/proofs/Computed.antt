-- What a test says at each number below n: antt computes the test at all of them, newest first, and one law reads it at any of them. Assumes nothing.
use mathlib.Core.Path.{◌≡◌, refl, subst, sym}
use mathlib.Core.Bool.{Bool, true, false, cond, ◌&&◌}
use mathlib.Core.Logic.{⊎_elim}
use Prim.Native.Nat.{ℕ, zero, suc, ◌<◌}
use native.Mathlib.Nat.{not-suc-le-zero, le_of_suc-le-suc, eq-or-lt_of_le}
use native.Mathlib.Omega.{arith}
use lib.Dec.{T}

-- the test f passes at each number below n
abbrev pub all_below : (ℕ → Bool) → ℕ → Bool
all_below f zero = true
all_below f (suc n) = f n && all_below f n

and_left : (a b : Bool) → T (a && b) → T a
and_left true b t = tt
and_left false b t = t

and_right : (a b : Bool) → T (a && b) → T b
and_right true b t = t
and_right false b t = absurd t

pub at_each : (f : ℕ → Bool) (n : ℕ) → T (all_below f n) → (k : ℕ) → k < n → T (f k)
at_each f zero t k h = absurd (not-suc-le-zero h)
at_each f (suc n) t k h =
    ⊎_elim
    (λ e. subst (λ (m : ℕ). T (f m)) (sym e) (and_left (f n) (all_below f n) t))
    (λ l. at_each f n (and_right (f n) (all_below f n) t) k l)
    (eq-or-lt_of_le (le_of_suc-le-suc h))

-- two tests are compared as numbers
pub same_test : (p q : Bool) → cond {A = ℕ} p 1 0 ≡ cond q 1 0 → p ≡ q
same_test true true e = refl
same_test true false e = absurd (omega arith)
same_test false true e = absurd (omega arith)
same_test false false e = refl
