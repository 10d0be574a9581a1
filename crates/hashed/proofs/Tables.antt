-- The table searched and built. A search has passed only columns of other codes, and every first column of its code is still before it;
-- links fall, so it ends. Assumes nothing.
use mathlib.Core.Path.{◌≡◌, refl, sym, ap, ◌∙◌, subst}
use mathlib.Core.List.{List}
use mathlib.Core.Logic.{⊎_elim}
use Prim.Native.Nat.{ℕ, ◌+◌, ◌-◌, ◌<◌, ◌≤◌}
use native.Mathlib.Omega.{arith}
use native.Mathlib.Numerals.{add-one}
use lib.ListN.{get_or, length, set, length-set}
use Rattle.order.proofs.Cases.{le_or_lt, eq_or_ne, after_set}
use Rattle.ownership.specs.Owners.{first_in, own_of, FirstAt}
use Rattle.hashed.specs.Table.{hash_of, Entry, Table, Found}
use Rattle.hashed.specs.Looked.{looked}
use Rattle.hashed.specs.declared.LongList.{LongList}
use Rattle.std.proofs.Common.{Option, Some, None, Result, Ok, Err}
use Rattle.std.specs.Option.{unwrap_or, option_flatten}
use Rattle.std.specs.Result.{result_ok}
use Rattle.ownership.proofs.Hits.{Hit, hit_at, more_found, first_hit, is_first}
use Rattle.ownership.proofs.Owns.{own_first, is_owner, hit_first}

-- ---- searching

-- what a search for c has come to, at column x with so many looks left
pub record Searching (second : List ℕ) (c n limit x left : ℕ) : Type 0 where
  pub within : x ≤ n
  pub first : 0 < x → FirstAt second (x - 1)
  pub same : 0 < x → hash_of (get_or second (x - 1) 0) ≡ hash_of c
  pub cover : (p : ℕ) → p < n → FirstAt second p → get_or second p 0 ≡ c → p < x
  pub enough : n ≤ limit → x ≤ left

pub search_start : {second bucket link : List ℕ} {n limit : ℕ} (c : ℕ) → Table second bucket link n
    → Searching second c n limit (get_or bucket (hash_of c) 0) limit
search_start {n = n} {limit = limit} c t =
    let e = t.lists (hash_of c) in
    record {
      within = e.within;
      first = e.first;
      same = e.same;
      cover = λ p l f g. e.cover p l f (ap hash_of g);
      enough = λ h. omega (arith, e.within);
    }

module _ {second bucket link : List ℕ} {c n limit x left : ℕ} (t : Table second bucket link n) (l : 0 < x)
    (s : Searching second c n limit x left) where
  below : Entry second (hash_of (get_or second (x - 1) 0)) (x - 1) (get_or link (x - 1) 0)
  below = t.links (x - 1) (omega arith) (s.first l)

  pub search_falls : get_or link (x - 1) 0 < x
  search_falls = omega (arith, below.within)

  pub search_next : (get_or second (x - 1) 0 ≡ c → ⊥) → Searching second c n limit (get_or link (x - 1) 0) (left - 1)
  search_next other = record {
    within = omega (arith, search_falls);
    first = below.first;
    same = λ k. below.same k ∙ s.same l;
    cover = λ p m f g.
        let u : p < x = s.cover p m f g in
        let w : p ≡ x - 1 → ⊥ = λ q. other (subst (λ (z : ℕ). get_or second z 0 ≡ c) q g) in
        below.cover p (omega arith) f (ap hash_of g ∙ sym (s.same l));
    enough = λ h. omega (arith, search_falls, s.enough h);
  }

pub search_found : {second : List ℕ} {c n limit x left : ℕ} → 0 < x → Searching second c n limit x left → get_or second (x - 1) 0 ≡ c
    → Found second c n limit x
search_found {second} {c} {n} {limit} {x} l s e = record {
  first = λ _. is_first (record {
    within = s.within;
    after = λ k. k;
    here = λ _. e;
    before = λ p a b g. (
      l,
      ⊎_elim (λ (k : x ≤ p + 1). k) (λ (k : p + 1 < x). absurd ((s.first l).new p (omega arith) (g ∙ sym e))) (le_or_lt x (p + 1)),
    );
  });
  sure = λ _. s.within;
}

-- no look is left: that is only where fewer were allowed than there are columns
pub search_given_up : {second : List ℕ} {c n limit x left : ℕ} → 0 < x → left ≡ 0 → Searching second c n limit x left
    → Found second c n limit (n + 1)
search_given_up l z s = record { first = λ h. absurd (omega arith); sure = λ h. absurd (omega (arith, s.enough h)) }

pub search_none : {second : List ℕ} {c n limit x left : ℕ} → 0 < c → x ≤ 0 → Searching second c n limit x left → Found second c n limit 0
search_none {second} {c} {n} {limit} {x} nz z s = record { first = λ _. nothing; sure = λ _. omega arith }
  where
    nothing : 0 ≡ first_in second c 0 n
    nothing =
        let r : ℕ = first_in second c 0 n in
        let h = first_hit second c 0 n in
        ⊎_elim
        (λ (k : r ≤ 0). omega arith)
        (λ (k : 0 < r).
        let b : r ≤ n = h.within in
        absurd (omega (arith, s.cover (r - 1) (omega arith) (hit_first (λ e. omega arith) h k) (h.here k))))
        (le_or_lt r 0)

-- where the search may look at every column, its answer is the owner
pub found_owner : {second : List ℕ} {c r : ℕ} → (c ≡ 0 → ⊥) → Found second c (length second) (length second) r → r ≡ own_of second c
found_owner {second} nz f = f.first (f.sure (omega arith)) ∙ own_first second nz

pub looked_owner : {second : List ℕ} {c : ℕ} (r : Result (Option ℕ) LongList) → (c ≡ 0 → ⊥)
    → Found second c (length second) (length second) (looked (length second) r) → unwrap_or (option_flatten (result_ok r)) 0 ≡ own_of second c
looked_owner (Ok (Some x)) nz f = found_owner nz f
looked_owner (Ok None) nz f = found_owner nz f
looked_owner (Err e) nz f = absurd (omega (arith, f.sure (omega arith)))

-- ---- building

-- a search that did not give up has found the first column of its code
found_hit : {second : List ℕ} {c n limit r : ℕ} → Found second c n limit r → r ≤ n → Hit second c 0 n r
found_hit {second} {c} {n} f w = subst (λ (z : ℕ). Hit second c 0 n z) (sym (f.first w)) (first_hit second c 0 n)

-- whether an index is a first column, by what the search among those before it says
pub is_new : {second : List ℕ} {n limit r : ℕ} → 0 < get_or second n 0 → Found second (get_or second n 0) n limit r → r ≡ 0 → FirstAt second n
is_new l f z = record {
  kmer = λ e. absurd (omega arith);
  new = λ q k g. absurd (omega (arith, ((found_hit f (omega arith)).before q (omega arith) k g).0));
}

pub is_old : {second : List ℕ} {n limit r : ℕ} → Found second (get_or second n 0) n limit r → r ≤ n → (r ≡ 0 → ⊥) → FirstAt second n → ⊥
is_old {r = r} f w z g = g.new (r - 1) (omega arith) ((found_hit f w).here (omega arith))

pub is_empty : {second : List ℕ} {n : ℕ} → get_or second n 0 ≤ 0 → FirstAt second n → ⊥
is_empty l f = f.kmer (omega arith)

-- a first column is its own owner, and every other column's is the one that the search among those before it found
pub owner_new : {second : List ℕ} {n : ℕ} → n < length second → FirstAt second n → n + 1 ≡ own_of second (get_or second n 0)
owner_new {n = n} l f = add-one n ∙ is_owner f.kmer (hit_at n (omega arith) l refl (λ q a b e. f.new q b e))

pub owner_old : {second : List ℕ} {n limit r : ℕ} → n < length second → 0 < get_or second n 0 → Found second (get_or second n 0) n limit r → r ≤ n
    → (r ≡ 0 → ⊥) → r ≡ own_of second (get_or second n 0)
owner_old l nz f w z = is_owner (λ e. omega arith) (more_found (omega arith) (found_hit f w) (omega arith))

pub table_start : {second bucket link : List ℕ} → length bucket ≡ 32768 → length second ≤ length link → ((h : ℕ) → get_or bucket h 0 ≡ 0)
    → Table second bucket link 0
table_start w l z = record {
  wide = w;
  long = l;
  part = omega arith;
  lists = λ h. rw (z h) (record {
    within = omega arith;
    first = λ k. absurd (omega arith);
    same = λ k. absurd (omega arith);
    cover = λ p k. absurd (omega arith);
  });
  links = λ p k. absurd (omega arith);
}

-- a column that is no first column leaves the table as it is
pub table_skip : {second bucket link : List ℕ} {n : ℕ} → n < length second → (FirstAt second n → ⊥) → Table second bucket link n
    → Table second bucket link (n + 1)
table_skip {second} {bucket} {link} {n} l non t = record {
  wide = t.wide;
  long = t.long;
  part = omega arith;
  lists = λ h.
      let e = t.lists h in
      record { within = omega (arith, e.within); first = e.first; same = e.same; cover = λ p m f g. e.cover p (before p m f) f g };
  links = λ p m f. t.links p (before p m f) f;
}
  where
    before : (p : ℕ) → p < n + 1 → FirstAt second p → p < n
    before p m f =
        ⊎_elim
        (λ (q : p ≡ n). absurd (non (subst (λ (z : ℕ). FirstAt second z) q f)))
        (λ (q : p ≡ n → ⊥). omega arith)
        (eq_or_ne p n)

module _ {second bucket link : List ℕ} {n : ℕ} (l : n < length second) (small : hash_of (get_or second n 0) < 32768) (f₀ : FirstAt second n)
    (t : Table second bucket link n) where
  new_list : (h : ℕ) → Entry second h (n + 1) (get_or (set bucket (hash_of (get_or second n 0)) (n + 1)) h 0)
  new_list =
      let h₀ : ℕ = hash_of (get_or second n 0) in
      let back : n + 1 - 1 ≡ n = omega arith in
      after_set (λ h x. Entry second h (n + 1) x) bucket h₀ (n + 1) (omega (arith, t.wide))
      (record { within = omega arith; first = λ _. rw back f₀; same = λ _. rw back; cover = λ p m f g. m })
      (λ h q.
      let e = t.lists h in
      record {
        within = omega (arith, e.within);
        first = e.first;
        same = e.same;
        cover = λ p m f g.
            let u : p ≡ n → ⊥ = λ z. q (sym g ∙ ap (λ (k : ℕ). hash_of (get_or second k 0)) z) in
            e.cover p (omega arith) f g;
      })

  new_link : (p : ℕ) → p < n + 1 → FirstAt second p
      → Entry second (hash_of (get_or second p 0)) p (get_or (set link n (get_or bucket (hash_of (get_or second n 0)) 0)) p 0)
  new_link =
      let h₀ : ℕ = hash_of (get_or second n 0) in
      after_set (λ p x. p < n + 1 → FirstAt second p → Entry second (hash_of (get_or second p 0)) p x) link n (get_or bucket h₀ 0) (omega (arith, t.long))
      (λ _ _. t.lists h₀)
      (λ p q m f. t.links p (omega arith) f)

  pub table_put : Table second (set bucket (hash_of (get_or second n 0)) (n + 1)) (set link n (get_or bucket (hash_of (get_or second n 0)) 0)) (n + 1)
  table_put = record {
    wide = length-set bucket (hash_of (get_or second n 0)) (n + 1) ∙ t.wide;
    long = omega (arith, t.long, length-set link n (get_or bucket (hash_of (get_or second n 0)) 0));
    part = omega arith;
    lists = new_list;
    links = new_link;
  }

pub table_end : {second bucket link : List ℕ} {n m : ℕ} → n ≤ m → m ≤ n → Table second bucket link n → Table second bucket link m
table_end {second} {bucket} {link} a b t = subst (λ (z : ℕ). Table second bucket link z) (omega arith) t
