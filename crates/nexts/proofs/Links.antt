-- Next columns from the last column to the first: of every code the column met last is known by its owner, and that is the next column of
-- the one met now. Assumes nothing.
use mathlib.Core.Path.{◌≡◌, refl, sym, ◌∙◌, subst}
use mathlib.Core.List.{List}
use mathlib.Core.Logic.{⊎_elim}
use Prim.Native.Nat.{ℕ, suc, ◌+◌, ◌-◌, ◌<◌, ◌≤◌}
use native.Mathlib.Omega.{arith}
use native.Mathlib.Numerals.{add-one}
use lib.ListN.{get_or, length, set, length-set}
use borrow.Author.Tests.{eq-eqb, ne_eqb}
use Rattle.rules.specs.Codes.{code_at}
use Rattle.order.proofs.Cases.{eq_or_ne, after_set}
use Rattle.ownership.specs.Owners.{first_in, FirstAt, Owns}
use Rattle.ownership.proofs.Hits.{Hit, hit_none, hit_at, first_hit, is_first}
use Rattle.ownership.proofs.Owns.{Owner, owner_of, first_one}
use Rattle.nexts.specs.Nexts.{next_column, NextColumns}
use Rattle.totals.specs.Steps.{Zeros}

-- ---- what a next column is

next_none : (second : List ℕ) (p : ℕ) → get_or second p 0 ≡ 0 → next_column second (suc p) ≡ 0
unfolding next_column code_at
next_none second p e = rw (eq-eqb (get_or second p 0) 0 e)

pub next_first : (second : List ℕ) (p : ℕ) → (get_or second p 0 ≡ 0 → ⊥)
    → next_column second (suc p) ≡ first_in second (get_or second p 0) (suc p) (length second)
unfolding next_column code_at
next_first second p h = rw (ne_eqb (get_or second p 0) 0 h)

next_within : (second : List ℕ) (p : ℕ) → next_column second (suc p) ≤ length second
next_within second p =
    ⊎_elim
    (λ (z : get_or second p 0 ≡ 0). omega (arith, next_none second p z))
    (λ (z : get_or second p 0 ≡ 0 → ⊥). omega (arith, next_first second p z, (first_hit second (get_or second p 0) (suc p) (length second)).within))
    (eq_or_ne (get_or second p 0) 0)

-- every number of nexts is a column or 0, so that nexts may be read by it
pub nexts_within : {second nexts₀ nexts : List ℕ} → NextColumns second nexts₀ nexts → (p : ℕ) → p < length second
    → get_or nexts p 0 ≤ length second
nexts_within {second} n p l = omega (arith, n.columns p l, next_within second p)

-- and every next column is a later one, so that a walk ends
next_rises : (second : List ℕ) (p : ℕ) → 1 ≤ next_column second (suc p) → suc p < next_column second (suc p)
next_rises second p h =
    ⊎_elim
    (λ (z : get_or second p 0 ≡ 0). absurd (omega (arith, next_none second p z)))
    (λ (z : get_or second p 0 ≡ 0 → ⊥).
    let e = next_first second p z in
    omega (arith, e, (first_hit second (get_or second p 0) (suc p) (length second)).after (omega (arith, e))))
    (eq_or_ne (get_or second p 0) 0)

pub nexts_rise : {second nexts₀ nexts : List ℕ} → NextColumns second nexts₀ nexts → (p : ℕ) → p < length second → 1 ≤ get_or nexts p 0 → suc p < get_or nexts p 0
nexts_rise {second} n p l h = let e = n.columns p l in let r = next_rises second p (omega arith) in omega arith

-- ---- finding them

-- where the columns from index k on are met: what they have as next, and for each first column the column of its code met last
pub record Linking (second tail₀ tail nexts₀ nexts : List ℕ) (k : ℕ) : Type 0 where
  pub part : k ≤ length second
  pub kept : length tail ≡ length tail₀
  pub long : length nexts ≡ length nexts₀
  pub tails : (p : ℕ) → p < length second → FirstAt second p → Hit second (get_or second p 0) k (length second) (get_or tail p 0)
  pub columns : (p : ℕ) → k ≤ p → p < length second → get_or nexts p 0 ≡ next_column second (suc p)
  pub others : (p : ℕ) → length second ≤ p → get_or nexts p 0 ≡ get_or nexts₀ p 0

pub linking_start : {second tail nexts : List ℕ} → Zeros tail → Linking second tail tail nexts nexts (length second)
linking_start z = record {
  part = omega arith;
  kept = refl;
  long = refl;
  tails = λ p l f. rw (z.zeros p) (hit_none λ q a b. absurd (omega arith));
  columns = λ p a b. absurd (omega arith);
  others = λ p l. refl;
}

-- a column of another code changes nothing
hit_earlier : {second : List ℕ} {c j n r : ℕ} → (get_or second j 0 ≡ c → ⊥) → Hit second c (j + 1) n r → Hit second c j n r
hit_earlier {second} {c} {j} other h = record {
  within = h.within;
  after = λ l. omega (arith, h.after l);
  here = h.here;
  before = λ p a b e.
      ⊎_elim
      (λ (q : p ≡ j). absurd (other (subst (λ (t : ℕ). get_or second t 0 ≡ c) q e)))
      (λ (q : p ≡ j → ⊥). h.before p (omega arith) b e)
      (eq_or_ne p j);
}

-- one turn, at index j: r is the owner of its code
module _ {second own tail₀ tail nexts₀ nexts : List ℕ} {k r : ℕ} (j : ℕ) (at : k ≡ j + 1) (room : length second ≤ length tail₀)
    (room' : length second ≤ length nexts₀) (ow : Owns second own)
    (e : r ≡ get_or own j 0) (s : Linking second tail₀ tail nexts₀ nexts k) where
  inside : j < length second
  inside = omega (arith, s.part)

  owner_here : Owner second (get_or second j 0) r
  owner_here = rw (e, ow.owners j inside) (owner_of second (get_or second j 0))

  before : Linking second tail₀ tail nexts₀ nexts (j + 1)
  before = subst (λ (m : ℕ). Linking second tail₀ tail nexts₀ nexts m) at s

  -- the turn's store to nexts
  stored : {tail' : List ℕ} (v : ℕ) → v ≡ next_column second (suc j) → length tail' ≡ length tail₀
      → ((p : ℕ) → p < length second → FirstAt second p → Hit second (get_or second p 0) j (length second) (get_or tail' p 0))
      → Linking second tail₀ tail' nexts₀ (set nexts j v) j
  stored v ev kept tails =
      let in-nexts : j < length nexts = omega (arith, inside, s.long) in
      record {
        part = omega (arith, inside);
        kept = kept;
        long = length-set nexts j v ∙ s.long;
        tails = tails;
        columns = after_set (λ p x. j ≤ p → p < length second → x ≡ next_column second (suc p)) nexts j v in-nexts
            (λ _ _. ev)
            (λ p q a b. before.columns p (omega arith) b);
        others = after_set (λ p x. length second ≤ p → x ≡ get_or nexts₀ p 0) nexts j v in-nexts
            (λ l. absurd (omega (arith, inside)))
            (λ p q l. s.others p l);
      }

  pub linking_skip : r ≡ 0 → Linking second tail₀ tail nexts₀ (set nexts j 0) j
  linking_skip z =
      let empty : get_or second j 0 ≡ 0 = owner_here.none z j inside refl in
      stored 0 (sym (next_none second j empty)) s.kept (λ p l f. hit_earlier (λ u. f.kmer (sym u ∙ empty)) (before.tails p l f))

  module _ (z : r ≡ 0 → ⊥) where
    pub owner_in : r - 1 < length second
    owner_in = omega (arith, owner_here.within)

    owner_first : FirstAt second (r - 1)
    owner_first = owner_here.first (omega arith)

    owner_code : get_or second (r - 1) 0 ≡ get_or second j 0
    owner_code = owner_here.code (omega arith)

    tail_is_next : get_or tail (r - 1) 0 ≡ next_column second (suc j)
    tail_is_next =
        let h = rw (owner_code, add-one j) at (before.tails (r - 1) owner_in owner_first) in
        is_first h ∙ sym (next_first second j (λ u. owner_first.kmer (owner_code ∙ u)))

    pub linking_next : {v : ℕ} → v ≡ get_or tail (r - 1) 0 → Linking second tail₀ (set tail (r - 1) (j + 1)) nexts₀ (set nexts j v) j
    linking_next {v} met =
        let in_tail : r - 1 < length tail = omega (arith, owner_in, s.kept) in
        stored v (met ∙ tail_is_next) (length-set tail (r - 1) (j + 1) ∙ s.kept)
        (after_set (λ p x. p < length second → FirstAt second p → Hit second (get_or second p 0) j (length second) x) tail (r - 1) (j + 1) in_tail
        (λ _ _. rw (add-one j) (hit_at j (omega arith) inside (sym owner_code) (λ q a b. absurd (omega arith))))
        (λ p q l f. hit_earlier (λ u. q (first_one f owner_first (sym u ∙ sym owner_code))) (before.tails p l f)))

pub linking_end : {second tail₀ tail nexts₀ nexts : List ℕ} {k : ℕ} → k ≤ 0 → Linking second tail₀ tail nexts₀ nexts k
    → NextColumns second nexts₀ nexts
linking_end z s = record { long = s.long; columns = λ p l. s.columns p (omega arith) l; others = s.others }
