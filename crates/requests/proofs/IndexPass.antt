-- One pass over a given slice decides whether it begins with the index (CR 6): as many places that have a k-mer, each standing before the next, are the
-- index by the rank lemma; and what a slice that passes tells of the runs of equal codes. Assumes nothing.
use mathlib.Core.Path.{◌≡◌, refl, sym, ap, ap₂, subst, subst⁻¹, ◌∙◌}
use mathlib.Core.Bool.{Bool, ◌&&◌}
use mathlib.Core.List.{List, [], ◌∷◌, ◌++◌, Memᴰ}
use Prim.Native.Nat.{ℕ, zero, suc, ◌≤◌, ◌<◌}
use native.Mathlib.Omega.{arith}
use lib.Dec.{T, eqb}
use lib.ListN.{length, get_or, take, drop, length-take}
use lib.Seq.{length-take-le, get_or-take}
use Rattle.rules.specs.Codes.{code_at}
use Rattle.requests.specs.Index.{index_of_codes, kmer_places, StandsBefore, InOrder, begins_with}
use Rattle.rules.proofs.Tests.{tests, Three, below, equal, above, three}
use Rattle.rules.proofs.ListLaws.{mem_at}
use Rattle.requests.proofs.Index.{index_is, index_length, same_ranks, index_one, steps_order, order_at}

-- what stands in a list stands at a place of it
pub at_mem : (x : ℕ) (xs : List ℕ) → Memᴰ x xs → (q : ℕ) × (q < length xs) × (get_or xs q 0 ≡ x)
at_mem x xs (Memᴰ.head {x = y} {xs = ys} e) = (0, omega arith, sym e)
at_mem x xs (Memᴰ.tail {x = y} {xs = ys} m) = let (q, l, e) = at_mem x ys m in (suc q, omega (arith, l), e)

-- ---- ys begins with xs

pub begins_take : (xs ys : List ℕ) → T (begins_with xs ys) → take (length xs) ys ≡ xs
unfolding begins_with
begins_take [] ys t = refl
begins_take (x ∷ xs) [] t = absurd t
begins_take (x ∷ xs) (y ∷ ys) t = let h = simp tests at t in ap₂ {C = List ℕ} (λ u v. u ∷ v) (sym h.0) (begins_take xs ys h.1)

pub take_begins : (xs ys : List ℕ) → take (length xs) ys ≡ xs → T (begins_with xs ys)
unfolding begins_with
take_begins [] ys e = tt
take_begins (x ∷ xs) [] e = absurd (let z = ap length e in omega arith)
take_begins (x ∷ xs) (y ∷ ys) e = simp tests (ap (λ (l : List ℕ). get_or l 0 x) (sym e), take_begins xs ys (ap (λ (l : List ℕ). drop 1 l) e))

-- what stands behind it changes nothing
pub begins_append : (xs ys : List ℕ) → T (begins_with xs (xs ++ ys))
unfolding begins_with
begins_append [] ys = tt
begins_append (x ∷ xs) ys = simp tests (refl, begins_append xs ys)

pub begins_front : (xs ys : List ℕ) → begins_with xs ys ≡ begins_with xs (take (length xs) ys)
unfolding begins_with
begins_front [] ys = refl
begins_front (x ∷ xs) [] = refl
begins_front (x ∷ xs) (y ∷ ys) = ap (λ (t : Bool). eqb x y && t) (begins_front xs ys)

-- ---- one pass over a given slice

-- the first n numbers are places that have a k-mer, each standing before the next
pub record Rising (codes index : List ℕ) (n : ℕ) : Type 0 where
  pub kmer : (q : ℕ) → q < n → 0 < code_at codes (get_or index q 0)
  pub order : (q : ℕ) → suc q < n → StandsBefore codes (get_or index q 0) (get_or index (suc q) 0)

pub rising_start : (codes index : List ℕ) → Rising codes index 0
rising_start codes index = record { kmer = λ q l. absurd (omega arith); order = λ q l. absurd (omega arith) }

-- one turn: the place before the first is 0
pub rising_next : (codes index : List ℕ) (n : ℕ) → Rising codes index n → 0 < code_at codes (get_or index n 0) → StandsBefore codes (get_or (0 ∷ index) n 0) (get_or index n 0)
    → Rising codes index (suc n)
rising_next codes index n r h f = record { kmer = λ q l. kmer_at q l (three q n); order = λ q l. order_next q l (three (suc q) n) }
  where
    kmer_at : (q : ℕ) → q < suc n → Three q n → 0 < code_at codes (get_or index q 0)
    kmer_at q l (below g) = r.kmer q g
    kmer_at q l (equal e) = subst⁻¹ (λ (m : ℕ). 0 < code_at codes (get_or index m 0)) e h
    kmer_at q l (above g) = absurd (omega arith)

    order_next : (q : ℕ) → suc q < suc n → Three (suc q) n → StandsBefore codes (get_or index q 0) (get_or index (suc q) 0)
    order_next q l (below g) = r.order q g
    order_next q l (equal e) = subst⁻¹ (λ (m : ℕ). StandsBefore codes (get_or (0 ∷ index) m 0) (get_or index m 0)) e f
    order_next q l (above g) = absurd (omega arith)

-- the first place needs its k-mer alone
pub rising_first : (codes : List ℕ) (p : ℕ) → 0 < code_at codes p → StandsBefore codes 0 p
unfolding code_at
rising_first codes p h = record { code = omega arith; tie = λ e. absurd (omega arith) }

module _ (codes index : List ℕ) where
  -- ---- what the first n are

  module _ (n : ℕ) (long : n ≤ length index) (r : Rising codes index n) where
    front_long : length (take n index) ≡ n
    front_long = length-take-le n index long

    front_at : (q : ℕ) → q < n → get_or (take n index) q 0 ≡ get_or index q 0
    front_at q l = get_or-take n index q 0 l

    front_ordered : InOrder codes (take n index)
    front_ordered =
        steps_order codes (take n index) (λ q l.
        let e = front_long in
        rw (front_at q (omega arith), front_at (suc q) (omega arith)) (r.order q (omega arith)))

    front_kmer : (z : ℕ) → Memᴰ z (take n index) → 0 < code_at codes z
    front_kmer z m =
        let (q, l, e) = at_mem z (take n index) m in
        let w : q < n = omega (arith, l, front_long) in
        subst (λ (p : ℕ). 0 < code_at codes p) (sym (front_at q w) ∙ e) (r.kmer q w)

    -- as many as there are places that have a k-mer: the index
    pub rising_index : kmer_places codes ≤ n → take n index ≡ index_of_codes codes
    rising_index l =
        same_ranks codes (take n index) (index_of_codes codes) front_ordered (index_is codes).ordered (λ z m. ((index_is codes).exact z).1 (front_kmer z m))
        (omega (arith, index_length codes, front_long))

    -- every place that has a k-mer: the index, and as many (for what is built)
    pub rising_whole : ((p : ℕ) → 0 < code_at codes p → (q : ℕ) × (q < n) × (get_or index q 0 ≡ p)) → (take n index ≡ index_of_codes codes) × (n ≡ kmer_places codes)
    rising_whole all =
        let e : take n index ≡ index_of_codes codes =
        index_one codes (take n index) (index_of_codes codes) (record { exact = λ p. (front_kmer p, λ h. has p (all p h)); ordered = front_ordered }) (index_is codes) in
        (e, omega (arith, front_long, ap length e, index_length codes))
      where
        has : (p : ℕ) → (q : ℕ) × (q < n) × (get_or index q 0 ≡ p) → Memᴰ p (take n index)
        has p (q, l, e) = subst (λ (z : ℕ). Memᴰ z (take n index)) (front_at q l ∙ e) (mem_at (take n index) q 0 (omega (arith, front_long)))

  -- THE END OF THE PASS: as many as there are places that have a k-mer
  pub rising_end : kmer_places codes ≤ length index → Rising codes index (kmer_places codes) → T (begins_with (index_of_codes codes) index)
  rising_end h r =
      take_begins (index_of_codes codes) index
      (ap (λ (n : ℕ). take n index) (index_length codes) ∙ rising_index (kmer_places codes) h r (omega arith))

  -- and the other way round, so that a slice which fails the pass does not begin with the index
  pub indexed_long : T (begins_with (index_of_codes codes) index) → kmer_places codes ≤ length index
  indexed_long t = omega (arith, index_length codes, length-take (length (index_of_codes codes)) index, ap length (begins_take (index_of_codes codes) index t))

  pub indexed_at : T (begins_with (index_of_codes codes) index) → (q : ℕ) → q < kmer_places codes → get_or (index_of_codes codes) q 0 ≡ get_or index q 0
  indexed_at t q l =
      let n = length (index_of_codes codes) in
      ap (λ (x : List ℕ). get_or x q 0) (sym (begins_take (index_of_codes codes) index t)) ∙ get_or-take n index q 0 (omega (arith, index_length codes))

  pub indexed_rising : T (begins_with (index_of_codes codes) index) → Rising codes index (kmer_places codes)
  indexed_rising t = record {
    kmer = λ q l. subst (λ (p : ℕ). 0 < code_at codes p) (indexed_at t q l) (((index_is codes).exact _).0 (mem_at (index_of_codes codes) q 0 (omega (arith, index_length codes))));
    order = λ q l.
        rw (← indexed_at t q (omega arith), ← indexed_at t (suc q) l)
        (order_at codes (index_of_codes codes) (index_is codes).ordered q (suc q) (omega arith) (omega (arith, index_length codes)));
  }

  -- one that is too short does not
  pub wrong_short : length index < kmer_places codes → ¬ T (begins_with (index_of_codes codes) index)
  wrong_short h t = omega (arith, indexed_long t)

  -- what a slice that begins with the index tells of any place: where it stands
  pub indexed_has : T (begins_with (index_of_codes codes) index) → (p : ℕ) → 0 < code_at codes p → (q : ℕ) × (q < kmer_places codes) × (get_or index q 0 ≡ p)
  indexed_has t p h =
      let (q, l, e) = at_mem p (index_of_codes codes) (((index_is codes).exact p).1 h) in
      let w : q < kmer_places codes = omega (arith, l, index_length codes) in
      (q, w, sym (indexed_at t q w) ∙ e)

  -- and of any two of its numbers: which stands before
  pub indexed_order : T (begins_with (index_of_codes codes) index) → (p q : ℕ) → p < q → q < kmer_places codes → StandsBefore codes (get_or index p 0) (get_or index q 0)
  indexed_order t p q h l =
      rw (← indexed_at t p (omega arith), ← indexed_at t q l)
      (order_at codes (index_of_codes codes) (index_is codes).ordered p q h (omega (arith, index_length codes)))

-- ---- runs of equal codes: "equal codes by place"

module _ (codes index : List ℕ) (t : T (begins_with (index_of_codes codes) index)) where
  -- codes do not fall
  pub codes_rise : (p q : ℕ) → p ≤ q → q < kmer_places codes → code_at codes (get_or index p 0) ≤ code_at codes (get_or index q 0)
  codes_rise p q h l = go (three p q)
    where
      go : Three p q → code_at codes (get_or index p 0) ≤ code_at codes (get_or index q 0)
      go (below g) = (indexed_order codes index t p q g l).code
      go (equal e) = omega (arith, ap (λ (n : ℕ). code_at codes (get_or index n 0)) e)
      go (above g) = absurd (omega arith)

  -- a place with the code of the index's number q is one of its numbers, and places of one code rise
  pub record SameRun (q p : ℕ) : Type 0 where
    pub rank : ℕ
    pub inside : rank < kmer_places codes
    pub holds : get_or index rank 0 ≡ p
    pub code : code_at codes (get_or index rank 0) ≡ code_at codes (get_or index q 0)
    pub earlier : rank < q → p < get_or index q 0
    pub later : q < rank → get_or index q 0 < p

  pub same_run : (q : ℕ) → q < kmer_places codes → (p : ℕ) → code_at codes p ≡ code_at codes (get_or index q 0) → SameRun q p
  same_run q l p e =
      let kmer = (indexed_rising codes index t).kmer q l in
      let (r, g, d) = indexed_has codes index t p (omega arith) in
      let same : code_at codes (get_or index r 0) ≡ code_at codes (get_or index q 0) = ap (code_at codes) d ∙ e in
      record {
        rank = r;
        inside = g;
        holds = d;
        code = same;
        earlier = λ h. omega (arith, d, (indexed_order codes index t r q h l).tie same);
        later = λ h. omega (arith, d, (indexed_order codes index t q r h g).tie (sym same));
      }

  -- the first of a run is the first place of its code: the number before it has a smaller code
  pub run_first : (q : ℕ) → q < kmer_places codes → code_at codes (get_or (0 ∷ index) q 0) < code_at codes (get_or index q 0)
      → (p : ℕ) → code_at codes p ≡ code_at codes (get_or index q 0) → get_or index q 0 ≤ p
  run_first zero l f p e = let r = same_run zero l p e in go r.rank r.holds r.later
    where
      go : (n : ℕ) → get_or index n 0 ≡ p → (0 < n → get_or index 0 0 < p) → get_or index 0 0 ≤ p
      go zero d g = omega arith
      go (suc n) d g = omega (arith, g (omega arith))
  run_first (suc q) l f p e = let r = same_run (suc q) l p e in go r (three r.rank (suc q))
    where
      go : (r : SameRun (suc q) p) → Three r.rank (suc q) → get_or index (suc q) 0 ≤ p
      go r (below h) = absurd (omega (arith, r.code, codes_rise r.rank q (omega arith) (omega arith)))
      go r (equal h) = omega (arith, r.holds, ap (λ (n : ℕ). get_or index n 0) h)
      go r (above h) = omega (arith, r.later h)
