-- What `first_in` says, column by column: at most one number has these four properties, and each clause of `first_in` keeps them. Assumes nothing.
use mathlib.Core.Path.{◌≡◌, refl, subst}
use mathlib.Core.Bool.{Bool, true, false, cond, ◌&&◌}
use mathlib.Core.List.{List}
use mathlib.Core.Logic.{⊎_elim}
use Prim.Native.Nat.{ℕ, zero, suc, ◌+◌, ◌-◌, ◌<◌, ◌≤◌}
use native.Mathlib.Omega.{arith}
use lib.ListN.{get_or}
use lib.Dec.{eqb, ltb, leb}
use borrow.Author.Tests.{le-leb, ltb-true, ltb-false, leb-true, eqb-true, eq-eqb}
use Rattle.order.proofs.Cases.{le_or_lt, true_not_false, both_true}
use Rattle.ownership.specs.Owners.{first_in}

-- r is the first column after lo, among the first n, whose code is c, and 0 if there is none
pub record Hit (second : List ℕ) (c lo n r : ℕ) : Type 0 where
  pub within : r ≤ n
  pub after : 0 < r → lo < r
  pub here : 0 < r → get_or second (r - 1) 0 ≡ c
  pub before : (p : ℕ) → lo ≤ p → p < n → get_or second p 0 ≡ c → (0 < r) × (r ≤ p + 1)

pub hit_none : {second : List ℕ} {c lo n : ℕ} → ((p : ℕ) → lo ≤ p → p < n → get_or second p 0 ≡ c → ⊥) → Hit second c lo n 0
hit_none non = record {
  within = omega arith;
  after = λ h. absurd (omega arith);
  here = λ h. absurd (omega arith);
  before = λ p a b e. absurd (non p a b e);
}

-- index p itself is a first column after lo if no index from lo on before it has the code
pub hit_at : {second : List ℕ} {c lo n : ℕ} (p : ℕ) → lo ≤ p → p < n → get_or second p 0 ≡ c
    → ((q : ℕ) → lo ≤ q → q < p → get_or second q 0 ≡ c → ⊥) → Hit second c lo n (suc p)
hit_at {second} {c} p h k e non =
    let back : suc p - 1 ≡ p = omega arith in
    record {
      within = omega arith;
      after = λ _. omega arith;
      here = λ _. rw back e;
      before = λ q a b g. (
        omega arith,
        ⊎_elim (λ (w : suc p ≤ q + 1). w) (λ (w : q + 1 < suc p). absurd (non q a (omega arith) g)) (le_or_lt (suc p) (q + 1)),
      );
    }

not_later : {second : List ℕ} {c lo n r s : ℕ} → Hit second c lo n r → Hit second c lo n s → 0 < s → (0 < r) × (r ≤ s)
not_later {second} {c} {lo} {n} {r} {s} h k l =
    let a : lo < s = k.after l in
    let e = h.before (s - 1) (omega arith) (omega arith) (k.here l) in
    (e.0, omega (arith, e.1))

hit_one : {second : List ℕ} {c lo n r s : ℕ} → Hit second c lo n r → Hit second c lo n s → r ≡ s
hit_one {r = r} {s = s} h k =
    ⊎_elim
    (λ (z : s ≤ 0). ⊎_elim (λ (y : r ≤ 0). omega arith) (λ (y : 0 < r). let e = not_later k h y in omega (arith, e.0, e.1)) (le_or_lt r 0))
    (λ (z : 0 < s). let e = not_later h k z in let f = not_later k h e.0 in omega (arith, e.1, f.1))
    (le_or_lt s 0)

-- what is found among some columns is found among more
pub more_found : {second : List ℕ} {c lo n m r : ℕ} → n ≤ m → Hit second c lo n r → 0 < r → Hit second c lo m r
more_found {n = n} o h l = record {
  within = omega arith;
  after = h.after;
  here = h.here;
  before = λ p a b e. ⊎_elim (λ (k : suc p ≤ n). h.before p a k e) (λ (k : n < suc p). (l, omega arith)) (le_or_lt (suc p) n);
}

none_yet : {second : List ℕ} {c lo n r : ℕ} → Hit second c lo n r → r ≤ 0 → (p : ℕ) → lo ≤ p → p < n → get_or second p 0 ≡ c → ⊥
none_yet h z p a b e = omega (arith, (h.before p a b e).0)

more_none : {second : List ℕ} {c lo n r : ℕ} → Hit second c lo n r → r ≤ 0 → (lo ≤ n → get_or second n 0 ≡ c → ⊥) → Hit second c lo (suc n) 0
more_none {second} {c} {lo} {n} h z non = hit_none λ p a b e.
    ⊎_elim
    (λ (k : suc p ≤ n). none_yet h z p a k e)
    (λ (k : n < suc p). let q : p ≡ n = omega arith in non (omega arith) (subst (λ (t : ℕ). get_or second t 0 ≡ c) q e))
    (le_or_lt (suc p) n)

not_both : (a b : Bool) → a && b ≡ false → a ≡ true → b ≡ true → ⊥
not_both a b e p q = true_not_false (rw (p, q) at e)

-- one column more: found before, found there, or not found yet
hit_step : {second : List ℕ} {c lo n r : ℕ} (s t : Bool) → ltb 0 r ≡ s → (leb lo n && eqb (get_or second n 0) c) ≡ t → Hit second c lo n r
    → Hit second c lo (suc n) (cond s r (cond t (suc n) 0))
hit_step {r = r} true t e f h = more_found (omega arith) h (ltb-true 0 r e)
hit_step {second} {c} {lo} {n} {r} false true e f h =
    let p = both_true (leb lo n) (eqb (get_or second n 0) c) f in
    hit_at n (leb-true lo n p.0) (omega arith) (eqb-true (get_or second n 0) c p.1) (none_yet h (ltb-false 0 r e))
hit_step {second} {c} {lo} {n} {r} false false e f h =
    more_none h (ltb-false 0 r e) (λ a b. not_both (leb lo n) (eqb (get_or second n 0) c) f (le-leb lo n a) (eq-eqb (get_or second n 0) c b))

-- `first_in` has the four properties, and what has them is `first_in`
pub first_hit : (second : List ℕ) (c lo n : ℕ) → Hit second c lo n (first_in second c lo n)
unfolding first_in
first_hit second c lo zero = hit_none λ p a b. absurd (omega arith)
first_hit second c lo (suc n) = hit_step _ _ refl refl (first_hit second c lo n)

pub is_first : {second : List ℕ} {c lo n r : ℕ} → Hit second c lo n r → r ≡ first_in second c lo n
is_first {second} {c} {lo} {n} h = hit_one h (first_hit second c lo n)
