-- Two numbers compared, two truth values told apart, a list read after a store or as it is laid out: what every law here and above is made
-- of. Assumes nothing.
use mathlib.Core.Path.{◌≡◌, refl, sym, ◌∙◌}
use mathlib.Core.Bool.{Bool, true, false, ◌&&◌}
use mathlib.Core.List.{List}
use mathlib.Core.Logic.{◌⊎◌, inl, inr, ⊎_elim}
use Prim.Native.Nat.{ℕ, zero, suc, ◌<◌, ◌≤◌}
use Rattle.std.proofs.lemmas.Bool.{cases_eq, cases_lt, true≢false}
use lib.ListN.{get_or, length, set, replicate}
use lib.Seq.{get_or-set_same, get_or-set_other, ext_get_or}

pub le_or_lt : (a b : ℕ) → (a ≤ b) ⊎ (b < a)
le_or_lt a b = ⊎_elim inr inl (cases_lt b a)

pub eq_or_ne : (a b : ℕ) → (a ≡ b) ⊎ (a ≡ b → ⊥)
eq_or_ne = cases_eq

pub true_not_false : true ≡ false → ⊥
true_not_false = true≢false

pub true_or_false : (a : Bool) → (a ≡ true) ⊎ (a ≡ false)
true_or_false true = inl refl
true_or_false false = inr refl

pub both_true : (a b : Bool) → a && b ≡ true → (a ≡ true) × (b ≡ true)
both_true true b e = (refl, e)
both_true false b e = absurd (true_not_false (sym e))

pub not_true : (a : Bool) → (a ≡ true → ⊥) → a ≡ false
not_true true h = absurd (h refl)
not_true false h = refl

-- what is to hold of every number of a list holds after a store: at the place stored to, and at each other
pub after_set : (P : ℕ → ℕ → Type 0) (l : List ℕ) (n v : ℕ) → n < length l → P n v → ((p : ℕ) → (p ≡ n → ⊥) → P p (get_or l p 0)) → (p : ℕ)
    → P p (get_or (set l n v) p 0)
after_set P l n v h new old p =
    ⊎_elim
    (λ (e : p ≡ n). rw (e, get_or-set_same l n v 0 h) new)
    (λ (e : p ≡ n → ⊥). rw (get_or-set_other l n p v 0 e) (old p e))
    (eq_or_ne p n)

-- an array of zeros is 0 everywhere, past its end too
pub zero_at : (n p : ℕ) → get_or {A = ℕ} (replicate n 0) p 0 ≡ 0
zero_at zero p = refl
zero_at (suc n) zero = refl
zero_at (suc n) (suc p) = zero_at n p

-- two lists that agree on their first n numbers and behind them are one list
pub one_list : {a b : List ℕ} {long : ℕ} (n : ℕ) → length a ≡ long → length b ≡ long → ((p : ℕ) → p < n → get_or a p 0 ≡ get_or b p 0)
    → ((p : ℕ) → n ≤ p → get_or a p 0 ≡ get_or b p 0) → a ≡ b
one_list {a} {b} n la lb front rest =
    ext_get_or 0 a b (la ∙ sym lb) (λ p _. ⊎_elim (λ (h : n ≤ p). rest p h) (λ (h : p < n). front p h) (le_or_lt n p))
