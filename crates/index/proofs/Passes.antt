-- The laws of the pass: what it has counted, read and seen after so many turns, and its ways out. Assumes nothing.
use mathlib.Core.Path.{◌≡◌, refl, sym, ap, subst, subst⁻¹, ◌∙◌}
use mathlib.Core.Bool.{Bool, true, false, cond, not}
use mathlib.Core.List.{List, ◌∷◌}
use Prim.Native.Nat.{ℕ, zero, suc, ◌+◌, ◌-◌, ◌<◌, ◌≤◌}
use native.Mathlib.Omega.{arith}
use native.Mathlib.Numerals.{add-one}
use borrow.Author.Tests.{lt-ltb, le-ltb}
use lib.Dec.{T, ltb}
use lib.ListN.{length, get_or, take}
use Rattle.std.proofs.Common.{count_by, nat_eq, Result, Ok, Err}
use Rattle.index.specs.declared.WrongSlice.{WrongSlice}
use Rattle.index.specs.Held.{held_of}
use lib.Seq.{take-length}
use Rattle.std.proofs.lemmas.Bool.Decides.{nat_tests}
use Rattle.std.proofs.lemmas.List.Sums.{count_by_more_yes, count_by_more_no}
use Rattle.rules.specs.Lists.{count_to}
use Rattle.rules.specs.Codes.{code_at}
use Rattle.requests.specs.Index.{has_kmer, index_of_codes, kmer_places, StandsBefore, begins_with}
use Rattle.rules.proofs.Tests.{tests, T_true, T_false, Three, below, equal, above, three}
use Rattle.requests.proofs.IndexPass.{Rising, rising_start, rising_next, rising_first, rising_end, indexed_rising, indexed_long, wrong_short}
use Rattle.index.specs.Keys.{Keyed, numbers_read, goes_on, Indexed}

-- ---- counting

abbrev has_code : ℕ → Bool
has_code x = not (nat_eq x 0)

count_step : (codes : List ℕ) (n : ℕ) → n < length codes
    → count_by has_code (take (n + 1) codes) ≡ count_by has_code (take n codes) + cond (ltb 0 (get_or codes n 0)) 1 0
count_step codes n l = grind (arith, nat_tests, count_by_more_yes has_code codes n 0 l, count_by_more_no has_code codes n 0 l)

count_front : (codes : List ℕ) (n : ℕ) → n ≤ length codes → count_by has_code (take n codes) ≡ count_to (has_kmer codes) n
unfolding count_to has_kmer code_at
count_front codes zero h = refl
count_front codes (suc n) h =
    rw (← add-one n) (count_step codes n (omega arith)) ∙ ap (λ (m : ℕ). m + cond (ltb 0 (get_or codes n 0)) 1 0) (count_front codes n (omega arith))

-- the numbers that are not 0 are the places that have a k-mer
pub count_codes : (codes : List ℕ) → count_by has_code codes ≡ kmer_places codes
unfolding kmer_places
count_codes codes = ap (count_by has_code) (sym (take-length codes)) ∙ count_front codes (length codes) (omega arith)

count_few : (codes : List ℕ) (n : ℕ) → count_to (has_kmer codes) n ≤ n
unfolding count_to
count_few codes zero = omega arith
count_few codes (suc n) = one (has_kmer codes (suc n)) (count_few codes n)
  where
    one : (t : Bool) → count_to (has_kmer codes) n ≤ n → count_to (has_kmer codes) n + cond t 1 0 ≤ suc n
    one true h = omega arith
    one false h = omega arith

pub few_kmers : (codes : List ℕ) → kmer_places codes ≤ length codes
unfolding kmer_places
few_kmers codes = count_few codes (length codes)

-- ---- the code at a place

pub code_none : (codes : List ℕ) {place : ℕ} → place ≡ 0 → 0 ≡ code_at codes place
unfolding code_at
code_none codes e = rw e

pub code_before : (codes : List ℕ) (place : ℕ) → (place ≡ 0 → ⊥) → get_or codes (place - 1) 0 ≡ code_at codes place
unfolding code_at
code_before codes zero n = absurd (n refl)
code_before codes (suc p) n = let e : suc p - 1 ≡ p = omega arith in rw e

-- ---- reading keys

pub keyed_start : {codes index keys : List ℕ} → Keyed codes index keys keys 0
keyed_start = record { long = refl; key = λ q l. absurd (omega arith); others = λ q l. refl }

-- what stood there before is forgotten
pub keyed_again : {codes index keys₀ keys : List ℕ} {n : ℕ} → Keyed codes index keys₀ keys n → Keyed codes index keys keys n
keyed_again k = record { long = refl; key = k.key; others = λ q l. refl }

-- of a slice that is too short none is read, of any other n
pub read_none : {codes index keys : List ℕ} {n : ℕ} → length index < n → Keyed codes index keys keys (numbers_read n index)
unfolding numbers_read
read_none {index = index} {n = n} h = rw (lt-ltb (length index) n h) keyed_start

pub read_all : {codes index keys₀ keys : List ℕ} {n : ℕ} → n ≤ length index → Keyed codes index keys₀ keys n → Keyed codes index keys₀ keys (numbers_read n index)
unfolding numbers_read
read_all {index = index} {n = n} h k = rw (le-ltb (length index) n h) k

-- ---- one turn of the check

-- what a turn decides
module _ {codes : List ℕ} {d last c p : ℕ} (ed : d ≡ code_at codes last) (ec : c ≡ code_at codes p) where
  pub goes_stands : goes_on d last c p ≡ true → (0 < code_at codes p) × StandsBefore codes last p
  unfolding goes_on
  goes_stands e =
      let (kmer, behind) = simp tests at (subst⁻¹ T e tt) in
      (omega arith, record { code = go (three d c) behind; tie = λ f. (behind (λ g. omega arith)).1 })
    where
      go : Three d c → (¬ (d < c) → (d ≡ c) × (last < p)) → code_at codes last ≤ code_at codes p
      go (below h) _ = omega arith
      go (equal h) _ = omega arith
      go (above h) f = omega (arith, (f (λ g. omega arith)).0)

  pub stops_stands : goes_on d last c p ≡ false → (0 < code_at codes p) × StandsBefore codes last p → ⊥
  unfolding goes_on
  stops_stands e (kmer, f) = subst T e (simp tests (omega arith, λ n. (omega (arith, f.code), f.tie (omega (arith, f.code)))))

-- ---- the pass: after t turns, with the place and the code that were seen last

pub record Pass (codes index : List ℕ) (n t code last : ℕ) : Type 0 where
  pub rising : Rising codes index t
  pub at : last ≡ get_or (0 ∷ index) t 0
  pub coded : code ≡ code_at codes last
  pub upto : t ≤ n

pub pass_start : (codes index : List ℕ) (n : ℕ) → Pass codes index n 0 0 0
unfolding code_at
pass_start codes index n = record { rising = rising_start codes index; at = refl; coded = refl; upto = omega arith }

module _ {codes index keys : List ℕ} {n t code last : ℕ} (v : Pass codes index n t code last) (k : Keyed codes index keys keys n) (l : t < n) where
  pub pass_next : goes_on code last (get_or keys t 0) (get_or index t 0) ≡ true → Pass codes index n (t + 1) (get_or keys t 0) (get_or index t 0)
  pass_next e =
      let (kmer, stands) = goes_stands v.coded (k.key t l) e in
      record {
        rising = rw (add-one t) (rising_next codes index t v.rising kmer (subst (λ (q : ℕ). StandsBefore codes q (get_or index t 0)) v.at stands));
        at = rw (add-one t);
        coded = k.key t l;
        upto = omega arith;
      }

  pub pass_wrong : n ≡ kmer_places codes → goes_on code last (get_or keys t 0) (get_or index t 0) ≡ false → false ≡ begins_with (index_of_codes codes) index
  pass_wrong d e =
      sym (T_false (begins_with (index_of_codes codes) index) (λ u.
      let r = indexed_rising codes index u in
      let kmer = r.kmer t (omega arith) in
      stops_stands v.coded (k.key t l) e (kmer, subst⁻¹ (λ (q : ℕ). StandsBefore codes q (get_or index t 0)) v.at (stands_at t (omega arith) u))))
    where
      stands_at : (m : ℕ) → m < kmer_places codes → T (begins_with (index_of_codes codes) index) → StandsBefore codes (get_or (0 ∷ index) m 0) (get_or index m 0)
      stands_at zero h u = rising_first codes (get_or index 0 0) ((indexed_rising codes index u).kmer 0 h)
      stands_at (suc m) h u = (indexed_rising codes index u).order m h

pub pass_end : {codes index : List ℕ} {n t code last : ℕ} → Pass codes index n t code last → n ≤ t → n ≡ kmer_places codes → n ≤ length index
    → true ≡ begins_with (index_of_codes codes) index
pass_end {codes} {index} {n} {t} v h d long =
    let e : t ≡ kmer_places codes = omega (arith, v.upto) in
    sym (T_true (begins_with (index_of_codes codes) index) (rising_end codes index (omega arith) (subst (Rising codes index) e v.rising)))

pub pass_short : (codes index : List ℕ) {n : ℕ} → length index < n → n ≡ kmer_places codes → false ≡ begins_with (index_of_codes codes) index
pass_short codes index h d = sym (T_false (begins_with (index_of_codes codes) index) (wrong_short codes index (omega arith)))

-- THE OUTCOME of a slice that passes: it begins with the index, and keys with the codes of its numbers
pub held_indexed : {codes index keys₀ keys : List ℕ} → T (begins_with (index_of_codes codes) index) → length codes ≤ length keys₀
    → Keyed codes index keys₀ keys (numbers_read (kmer_places codes) index) → Indexed codes index keys
unfolding numbers_read
held_indexed {codes} {index} t room k =
    let all = le-ltb (length index) (kmer_places codes) (indexed_long codes index t) in
    record { begins = t; long = omega (arith, few_kmers codes, k.long); key = λ q l. k.key q (rw all l) }

-- what `index::check` returns says whether it does, and how many numbers the index has
pub held_right : (b : Bool) (m : ℕ) {n : ℕ} {r : Result ℕ WrongSlice} → r ≡ held_of b m → r ≡ Ok n → (b ≡ true) × (n ≡ m)
held_right true m e d = (refl, cc)
held_right false m e d = cc

pub held_wrong : (b : Bool) (m : ℕ) {n : WrongSlice} {r : Result ℕ WrongSlice} → r ≡ held_of b m → r ≡ Err n → b ≡ false
held_wrong true m e d = cc
held_wrong false m e d = refl
