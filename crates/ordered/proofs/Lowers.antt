-- A code looked up among ordered places: the half that cannot hold its first place is left out, and then the place where it would stand
-- has it or none has. Assumes nothing.
use mathlib.Core.Path.{◌≡◌, refl, sym, ap, ◌∙◌}
use mathlib.Core.List.{List}
use mathlib.Core.Bool.{Bool, true, false}
use mathlib.Core.Logic.{⊎_elim}
use Prim.Native.Nat.{ℕ, ◌+◌, ◌<◌, ◌≤◌}
use native.Mathlib.Omega.{arith}
use native.Mathlib.Numerals.{add-one}
use lib.Dec.{ltb}
use lib.ListN.{get_or, length, take}
use lib.Seq.{get_or-take, length-take-le}
use borrow.Author.Tests.{lt-ltb, ltb-true, ltb-false}
use Rattle.std.proofs.lemmas.Grind.{not_there}
use Rattle.std.proofs.lemmas.List.{get_or_default}
use Rattle.std.specs.List.Sorted.{IsPartitionedBy, IsPartitionPoint}
use Rattle.order.specs.Order.{Placed, Ordered}
use Rattle.order.proofs.Cases.{le_or_lt, eq_or_ne}
use Rattle.ownership.specs.Owners.{own_of}
use Rattle.ordered.specs.Lower.{Lower}
use Rattle.ownership.proofs.Hits.{hit_none, hit_at}
use Rattle.ownership.proofs.Owns.{is_owner}

-- a list just ordered, cut behind its places, is ready to be searched; what stood there before is forgotten
pub ordered_ready : {second order₀ order : List ℕ} {m : ℕ} → length second ≤ length order₀ → Ordered second order₀ order m
    → Ordered second (take m order) (take m order) (length (take m order))
ordered_ready {second} {order₀} {order} {m} l h =
    let long : length (take m order) ≡ m = length-take-le m order (omega (arith, h.within, h.long)) in
    let at : (q : ℕ) → q < m → get_or (take m order) q 0 ≡ get_or order q 0 = λ q k. get_or-take m order q 0 k in
    rw long (record {
      within = h.within;
      long = refl;
      order = λ p q k b. rw (at p (omega arith), at q b) (h.order p q k b);
      under = λ q k. rw (at q k) (h.under q k);
      kmer = λ q k. rw (at q k) (h.kmer q k);
      all = λ p k z. let r = h.all p k z in record { place = r.place; below = r.below; holds = at r.place r.below ∙ r.holds };
      others = λ q k. refl;
    })

-- what holds where a fact is known to be there
pub by_merely : {P : Type 0} {a b : ℕ} → ∥ P ∥₁ → (P → a ≡ b) → a ≡ b
by_merely {a = a} {b = b} there f = ⊎_elim (λ (e : a ≡ b). e) (λ (n : a ≡ b → ⊥). absurd (not_there there (λ p. n (f p)))) (eq_or_ne a b)

-- ---- where a code would stand

-- the place's code is below c
abbrev pub is_below : List ℕ → ℕ → ℕ → Bool
is_below second c p = ltb (get_or second p 0) c

module _ {second order : List ℕ} (c k : ℕ) (h : Ordered second order order (length order)) where
  parted : IsPartitionedBy (is_below second c) order
  parted i j d u l e =
      ⊎_elim
      (λ (same : i ≡ j). rw same e)
      (λ (other : i ≡ j → ⊥).
      let at_i : get_or order i d ≡ get_or order i 0 = get_or_default order i d 0 (omega arith) in
      let at_j : get_or order j d ≡ get_or order j 0 = get_or_default order j d 0 l in
      let low : get_or second (get_or order j 0) 0 < c = ltb-true (get_or second (get_or order j 0) 0) c (rw at_j at e) in
      rw at_i (lt-ltb (get_or second (get_or order i 0) 0) c (omega (arith, (h.order i j (omega arith) l).code))))
      (eq_or_ne i j)

  pub lower_at : k ≤ length order
      → (IsPartitionedBy (is_below second c) order → IsPartitionPoint (λ p. is_below second c p ≡ true) (λ p. is_below second c p ≡ false) order k)
      → Lower second order (length order) c k k
  lower_at upto point = record {
    within = omega arith;
    upto = upto;
    low = λ q l. ltb-true (get_or second (get_or order q 0) 0) c ((point parted).0 q 0 (omega arith) l);
    high = λ q l b. ltb-false (get_or second (get_or order q 0) 0) c ((point parted).1 q 0 l b);
  }

module _ {second order : List ℕ} {m c k : ℕ} (nz : c ≡ 0 → ⊥) (h : Ordered second order order m) (w : Lower second order m c k k) where
  -- an index that has the code is held, at k or behind
  where_held : (p : ℕ) → p < length second → get_or second p 0 ≡ c → Placed order m p
  where_held p l e = h.all p l (omega arith)

  not_earlier : (p : ℕ) (r : Placed order m p) → get_or second p 0 ≡ c → k ≤ r.place
  not_earlier p r e =
      ⊎_elim
      (λ (l : k ≤ r.place). l)
      (λ (l : r.place < k). absurd (omega (arith, rw r.holds at (w.low r.place l))))
      (le_or_lt k r.place)

  pub owner_past : m ≤ k → 0 ≡ own_of second c
  owner_past l = is_owner nz (hit_none λ p a b e. let r = where_held p b e in omega (arith, r.below, not_earlier p r e))

  pub owner_found : k < m → get_or second (get_or order k 0) 0 ≡ c → get_or order k 0 + 1 ≡ own_of second c
  owner_found l f =
      add-one (get_or order k 0) ∙ is_owner nz (hit_at (get_or order k 0) (omega arith) (h.under k l) f λ p a b e.
      let r = where_held p (omega (arith, h.under k l)) e in
      let g : k ≤ r.place = not_earlier p r e in
      ⊎_elim
      (λ (z : r.place ≡ k). let y : get_or order k 0 ≡ p = ap (λ (t : ℕ). get_or order t 0) (sym z) ∙ r.holds in omega arith)
      (λ (z : r.place ≡ k → ⊥).
      let y = rw r.holds at (h.order k r.place (omega arith) r.below) in
      omega (arith, y.tie (f ∙ sym e)))
      (eq_or_ne r.place k))

  pub owner_other : k < m → (get_or second (get_or order k 0) 0 ≡ c → ⊥) → 0 ≡ own_of second c
  owner_other l f = is_owner nz (hit_none λ p a b e.
      let r = where_held p b e in
      let g : k ≤ r.place = not_earlier p r e in
      ⊎_elim
      (λ (z : r.place ≡ k). f (ap (λ (t : ℕ). get_or second t 0) (ap (λ (t : ℕ). get_or order t 0) (sym z) ∙ r.holds) ∙ e))
      (λ (z : r.place ≡ k → ⊥).
      let y = rw r.holds at (h.order k r.place (omega arith) r.below) in
      let low : c ≤ get_or second (get_or order k 0) 0 = w.high k (omega arith) l in
      f (omega (arith, y.code)))
      (eq_or_ne r.place k))
