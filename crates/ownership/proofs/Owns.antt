-- What an owner is, and owners written in order: equal codes have one owner, and an owner tells its code. Assumes nothing.
use mathlib.Core.Path.{◌≡◌, refl, sym, ap, ◌∙◌, subst}
use mathlib.Core.List.{List}
use mathlib.Core.Logic.{⊎_elim}
use Prim.Native.Nat.{ℕ, ◌+◌, ◌-◌, ◌<◌, ◌≤◌}
use native.Mathlib.Omega.{arith}
use lib.ListN.{get_or, length, set, length-set}
use borrow.Author.Tests.{eq-eqb, ne_eqb}
use Rattle.order.proofs.Cases.{le_or_lt, eq_or_ne, after_set}
use Rattle.ownership.specs.Owners.{first_in, own_of, FirstAt, Owned, Kept, Owns}
use Rattle.ownership.proofs.Hits.{Hit, first_hit, is_first}

pub own_none : (second : List ℕ) {c : ℕ} → c ≡ 0 → 0 ≡ own_of second c
unfolding own_of
own_none second {c} e = rw (eq-eqb c 0 e)

pub own_first : (second : List ℕ) {c : ℕ} → (c ≡ 0 → ⊥) → first_in second c 0 (length second) ≡ own_of second c
unfolding own_of
own_first second {c} h = rw (ne_eqb c 0 h)

pub is_owner : {second : List ℕ} {c r : ℕ} → (c ≡ 0 → ⊥) → Hit second c 0 (length second) r → r ≡ own_of second c
is_owner {second} nz h = is_first h ∙ own_first second nz

pub record Owner (second : List ℕ) (c e : ℕ) : Type 0 where
  pub within : e ≤ length second
  pub first : 0 < e → FirstAt second (e - 1)
  pub code : 0 < e → get_or second (e - 1) 0 ≡ c
  pub none : e ≡ 0 → (p : ℕ) → p < length second → get_or second p 0 ≡ c → c ≡ 0

-- the first column of a code is a first column
pub hit_first : {second : List ℕ} {c n r : ℕ} → (c ≡ 0 → ⊥) → Hit second c 0 n r → 0 < r → FirstAt second (r - 1)
hit_first {second} {c} {n} {r} nz h l =
    let e : get_or second (r - 1) 0 ≡ c = h.here l in
    record {
      kmer = λ (z : get_or second (r - 1) 0 ≡ 0). nz (sym e ∙ z);
      new = λ q k g. let u = h.before q (omega arith) (omega arith) (g ∙ e) in absurd (omega (arith, u.1));
    }

pub owner_of : (second : List ℕ) (c : ℕ) → Owner second c (own_of second c)
owner_of second c =
    ⊎_elim
    (λ (z : c ≡ 0).
    rw (sym (own_none second z))
    (record { within = omega arith; first = λ l. absurd (omega arith); code = λ l. absurd (omega arith); none = λ _ p l g. z }))
    (λ (nz : c ≡ 0 → ⊥).
    let h = first_hit second c 0 (length second) in
    rw (sym (own_first second nz))
    (record {
      within = h.within;
      first = hit_first nz h;
      code = h.here;
      none = λ z p l g. absurd (omega (arith, (h.before p (omega arith) l g).0, z));
    }))
    (eq_or_ne c 0)

-- two first columns of one code are one
pub first_one : {second : List ℕ} {p q : ℕ} → FirstAt second p → FirstAt second q → get_or second p 0 ≡ get_or second q 0 → p ≡ q
first_one {second} {p} {q} f g e =
    ⊎_elim
    (λ (h : q ≤ p). ⊎_elim (λ (k : p ≤ q). omega arith) (λ (k : q < p). absurd (f.new q k (sym e))) (le_or_lt p q))
    (λ (h : p < q). absurd (g.new p h e))
    (le_or_lt q p)

-- codes that share an owner are one code
pub same_owner : (second : List ℕ) {c d : ℕ} → 0 < own_of second d → own_of second c ≡ own_of second d → c ≡ d
same_owner second {c} {d} z e =
    let to-d : get_or second (own_of second c - 1) 0 ≡ get_or second (own_of second d - 1) 0 = ap (λ (t : ℕ). get_or second (t - 1) 0) e in
    sym ((owner_of second c).code (omega arith)) ∙ to-d ∙ (owner_of second d).code z

-- ---- writing owners in order

pub owned_start : {second codes own : List ℕ} → Owned second codes own own 0
owned_start = record { long = refl; owners = λ p l. absurd (omega arith); others = λ p l. refl }

pub owned_next : {second codes own₀ own : List ℕ} {n v : ℕ} → n < length own → v ≡ own_of second (get_or codes n 0)
    → Owned second codes own₀ own n → Owned second codes own₀ (set own n v) (n + 1)
owned_next {second} {codes} {own₀} {own} {n} {v} l e o = record {
  long = length-set own n v ∙ o.long;
  owners = after_set (λ p x. p < n + 1 → x ≡ own_of second (get_or codes p 0)) own n v l (λ _. e) (λ p q k. o.owners p (omega arith));
  others = after_set (λ p x. n + 1 ≤ p → x ≡ get_or own₀ p 0) own n v l (λ k. absurd (omega arith)) (λ p q k. o.others p (omega arith));
}

pub owned_end : {second codes own₀ own : List ℕ} {n m : ℕ} → n ≤ m → m ≤ n → Owned second codes own₀ own n → Owned second codes own₀ own m
owned_end {second} {codes} {own₀} {own} a b o = subst (λ (z : ℕ). Owned second codes own₀ own z) (omega arith) o

-- owners written in order touch nothing behind them
pub owned_kept : {second codes own₀ own : List ℕ} {n m : ℕ} → n ≤ m → Owned second codes own₀ own n → Kept own₀ own m
owned_kept l o = record { long = o.long; others = λ p k. o.others p (omega arith) }

-- owners of all n codes, written over numbers that were kept from there on
pub owned_over : {second codes own₀ own₁ own : List ℕ} {n : ℕ} → Kept own₀ own₁ n → Owned second codes own₁ own n → Owned second codes own₀ own n
owned_over k o = record { long = o.long ∙ k.long; owners = o.owners; others = λ p l. o.others p l ∙ k.others p l }

-- and what stood there before is forgotten
pub owned_again : {second codes own₀ own : List ℕ} {n : ℕ} → Owned second codes own₀ own n → Owned second codes own own n
owned_again o = record { long = refl; owners = o.owners; others = λ p l. refl }

pub owned_owns : {second own₀ own : List ℕ} → Owned second second own₀ own (length second) → Owns second own
owned_owns o = record { owners = o.owners }
