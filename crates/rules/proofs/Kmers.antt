-- Equal packed codes mean equal k-mers: a code of k bases gives back each base, and a base its letter, so matches can be told from codes alone.
-- Assumes nothing.
use mathlib.Core.Path.{◌≡◌, refl, sym, ap, ap₂, subst, ◌∙◌}
use mathlib.Core.Logic.{◌⊎◌, inl, inr}
use mathlib.Core.Bool.{true, ◌&&◌}
use mathlib.Core.Option.{Option, none, some}
use mathlib.Core.List.{List, [], ◌∷◌, ◌++◌}
use Prim.Native.Nat.{ℕ, zero, suc, ◌+◌, ◌*◌, ◌≤◌, ◌<◌}
use native.Mathlib.Omega.{arith}
use lib.Dec.{T, leb, ltb, eqb}
use lib.ListN.{length, get_or, length-append, length-take, length-drop, get_or-append, get_or-eq_default}
use lib.Seq.{get_or_at}
use Rattle.rules.specs.declared.Settings.{Settings}
use Rattle.rules.specs.Lists.{text, count_to}
use Rattle.rules.specs.Places.{places, base_of, all_bases, letters_at, kmer_at, pack_on, packed, same_letters, same_kmer, total}
use Rattle.rules.specs.Matches.{Cell, is_match}
use Rattle.rules.specs.Codes.{kmer_code, codes_to, codes, code_at, occurrences, code_total, code_match}
use Rattle.rules.proofs.Tests.{tests, by_test, tested, T_true, T_false, Three, below, equal, above, three}
use Rattle.rules.proofs.ListLaws.{Placed, not_there, there, placed, count_to_same}

-- ---- the same letters

pub same_letters_lem : (x y : List ℕ) → T (same_letters x y) → x ≡ y
unfolding same_letters
same_letters_lem [] [] t = refl
same_letters_lem [] (b ∷ y) t = absurd t
same_letters_lem (a ∷ x) [] t = absurd t
same_letters_lem (a ∷ x) (b ∷ y) t = let h = simp tests at t in ap₂ {C = List ℕ} (λ p q. p ∷ q) h.0 (same_letters_lem x y h.1)

pub letters_same : (x : List ℕ) → T (same_letters x x)
unfolding same_letters
letters_same [] = tt
letters_same (a ∷ x) = simp tests (refl, letters_same x)

pub same_sym : (x y : Option (List ℕ)) → T (same_kmer x y) → T (same_kmer y x)
unfolding same_kmer
same_sym none y t = absurd t
same_sym (some a) none t = absurd t
same_sym (some a) (some b) t = subst (λ (l : List ℕ). T (same_letters l a)) (same_letters_lem a b t) (letters_same a)

pub same_self : (x y : Option (List ℕ)) → T (same_kmer x y) → T (same_kmer x x)
unfolding same_kmer
same_self none y t = absurd t
same_self (some a) y t = letters_same a

-- ---- the k-mer at a place

-- a place with a k-mer is one of the places, and its letters are k bases
pub record KmerOf (k : ℕ) (s : List ℕ) (i : ℕ) (x : List ℕ) : Type 0 where
  pub from : 1 ≤ i
  pub to : i ≤ places k s
  pub bases : T (all_bases x)
  pub long : length x ≡ k
  pub letters : x ≡ letters_at k s i

-- the letters at a place are k
letters_long : (k : ℕ) (s : List ℕ) (i : ℕ) → 1 ≤ i → i ≤ places k s → length (letters_at k s i) ≡ k
unfolding letters_at places
letters_long k s i h g = simp (length-take, length-drop) (omega arith)

abbrev OrNone : (List ℕ → Type 0) → Option (List ℕ) → Type 0
OrNone P none = Unit {0}
OrNone P (some x) = P x

kmer_or_none : (k : ℕ) (s : List ℕ) (i : ℕ) → OrNone (KmerOf k s i) (kmer_at k s i)
unfolding kmer_at
kmer_or_none k s i =
    by_test (OrNone (KmerOf k s i)) (leb 1 i && leb i (places k s) && all_bases (letters_at k s i)) (some (letters_at k s i)) none
    (λ t. let h = simp tests at t in
    record { from = h.0.0; to = h.0.1; bases = h.1; long = letters_long k s i h.0.0 h.0.1; letters = refl }) (λ _. tt)

pub kmer_of : (k : ℕ) (s : List ℕ) (i : ℕ) (x : List ℕ) → kmer_at k s i ≡ some x → KmerOf k s i x
kmer_of k s i x e = subst (OrNone (KmerOf k s i)) e (kmer_or_none k s i)

-- a place with a k-mer is one of the places
pub kmer_place : (k : ℕ) (s : List ℕ) (i : ℕ) (y : Option (List ℕ)) → T (same_kmer (kmer_at k s i) y) → (1 ≤ i) × (i ≤ places k s)
unfolding same_kmer
kmer_place k s i y t = go (kmer_at k s i) refl t
  where
    go : (o : Option (List ℕ)) → kmer_at k s i ≡ o → T (same_kmer o y) → (1 ≤ i) × (i ≤ places k s)
    go none e u = absurd u
    go (some x) e u = let h = kmer_of k s i x e in (h.from, h.to)

-- two places with the same k-mer have the same k letters
pub kmer_letters : (k : ℕ) (s t : List ℕ) (i j : ℕ) → T (same_kmer (kmer_at k s i) (kmer_at k t j)) → letters_at k s i ≡ letters_at k t j
unfolding same_kmer
kmer_letters k s t i j h = go (kmer_at k s i) (kmer_at k t j) refl refl h
  where
    go : (o p : Option (List ℕ)) → kmer_at k s i ≡ o → kmer_at k t j ≡ p → T (same_kmer o p) → letters_at k s i ≡ letters_at k t j
    go none p e f u = absurd u
    go (some x) none e f u = absurd u
    go (some x) (some y) e f u = sym (kmer_of k s i x e).letters ∙ same_letters_lem x y u ∙ (kmer_of k t j y f).letters

-- ---- packing

-- a base's two bits give back its letter
base_letter : (x : ℕ) → base_of x < 4 → get_or (text "ACGT") (base_of x) 0 ≡ x
unfolding base_of
base_letter x h = go (placed 0 4 x (text "ACGT"))
  where
    go : Placed 0 4 x (text "ACGT") (base_of x) → get_or (text "ACGT") (base_of x) 0 ≡ x
    go (not_there e) = absurd (omega arith)
    go (there p e l g) = let q : base_of x ≡ p = omega arith in ap (λ (n : ℕ). get_or (text "ACGT") n 0) q ∙ g

base_one : (x y : ℕ) → base_of x < 4 → base_of x ≡ base_of y → x ≡ y
base_one x y h e = sym (base_letter x h) ∙ ap (λ (n : ℕ). get_or (text "ACGT") n 0) e ∙ base_letter y (omega arith)

pack_on_same : (x y : List ℕ) (n m : ℕ) → T (all_bases x) → T (all_bases y) → length x ≡ length y → pack_on n x ≡ pack_on m y → (n ≡ m) × (x ≡ y)
unfolding pack_on all_bases
pack_on_same [] [] n m s t l e = (e, refl)
pack_on_same [] (b ∷ y) n m s t l e = absurd (omega arith)
pack_on_same (a ∷ x) [] n m s t l e = absurd (omega arith)
pack_on_same (a ∷ x) (b ∷ y) n m s t l e =
    let p = simp tests at s in
    let q = simp tests at t in
    let (f, g) = pack_on_same x y (n * 4 + base_of a) (m * 4 + base_of b) p.1 q.1 (omega arith) e in
    let pa = p.0 in
    let qb = q.0 in
    let same : base_of a ≡ base_of b = omega arith in
    (omega arith, ap₂ {C = List ℕ} (λ u v. u ∷ v) (base_one a b pa same) g)

-- k-mers of one length with equal packed codes are equal
pub packed_same : (x y : List ℕ) → T (all_bases x) → T (all_bases y) → length x ≡ length y → packed x ≡ packed y → x ≡ y
unfolding packed
packed_same x y s t l e = (pack_on_same x y 0 0 s t l e).1

-- ---- codes

module _ (k : ℕ) (s : List ℕ) where
  pub codes_to_length : (n : ℕ) → length (codes_to k s n) ≡ n
  unfolding codes_to
  codes_to_length zero = refl
  codes_to_length (suc n) = omega (arith, length-append (codes_to k s n) (kmer_code (kmer_at k s (suc n)) ∷ []), codes_to_length n)

  pub codes_length : length (codes k s) ≡ places k s
  unfolding codes
  codes_length = codes_to_length (places k s)

  -- outside the places there is no k-mer
  pub kmer_outside : (i : ℕ) → ¬ ((1 ≤ i) × (i ≤ places k s)) → kmer_at k s i ≡ none
  kmer_outside i h = go (kmer_at k s i) refl
    where
      go : (o : Option (List ℕ)) → kmer_at k s i ≡ o → o ≡ none
      go none e = refl
      go (some x) e = let g = kmer_of k s i x e in absurd (h (g.from, g.to))

  codes_to_at : (n p : ℕ) → p < n → get_or (codes_to k s n) p 0 ≡ kmer_code (kmer_at k s (suc p))
  unfolding codes_to
  codes_to_at zero p h = absurd (omega arith)
  codes_to_at (suc n) p h = go (three p n) (codes_to_at n p)
    where
      front : List ℕ
      front = codes_to k s n

      last : ℕ
      last = kmer_code (kmer_at k s (suc n))

      go : Three p n → (p < n → get_or (codes_to k s n) p 0 ≡ kmer_code (kmer_at k s (suc p))) → get_or (front ++ (last ∷ [])) p 0 ≡ kmer_code (kmer_at k s (suc p))
      go (below l) ih = get_or-append front (last ∷ []) 0 p (omega (arith, codes_to_length n)) ∙ ih l
      go (equal e) ih = get_or_at front last [] 0 p (codes_to_length n ∙ sym e) ∙ ap (λ (q : ℕ). kmer_code (kmer_at k s (suc q))) (sym e)
      go (above l) ih = absurd (omega arith)

  -- the code at any place is that of its k-mer, 0 where there is none
  pub code_at_lem : (i : ℕ) → code_at (codes k s) i ≡ kmer_code (kmer_at k s i)
  unfolding code_at codes kmer_code
  code_at_lem zero = sym (ap kmer_code (kmer_outside 0 (λ h. omega (arith, h.0))))
  code_at_lem (suc p) = go (tested (ltb p (places k s)))
    where
      go : T (ltb p (places k s)) ⊎ (¬ T (ltb p (places k s))) → get_or (codes_to k s (places k s)) p 0 ≡ kmer_code (kmer_at k s (suc p))
      go (inl t) = codes_to_at (places k s) p (simp tests at t)
      go (inr f) =
          let h = simp tests at f in
          get_or-eq_default (codes_to k s (places k s)) 0 (omega (arith, codes_to_length (places k s)))
          ∙ sym (ap kmer_code (kmer_outside (suc p) (λ g. omega (arith, h, g.1))))

-- ---- the same k-mer is the same code, where there is one

same_code : (k : ℕ) (s t : List ℕ) (i j : ℕ) (x : List ℕ) → kmer_at k s i ≡ some x
    → same_kmer (kmer_at k t j) (some x) ≡ eqb (kmer_code (kmer_at k t j)) (kmer_code (some x))
unfolding same_kmer kmer_code
same_code k s t i j x e = go (kmer_at k t j) refl
  where
    h : KmerOf k s i x
    h = kmer_of k s i x e

    go : (o : Option (List ℕ)) → kmer_at k t j ≡ o → same_kmer o (some x) ≡ eqb (kmer_code o) (suc (packed x))
    go none d = sym (T_false (eqb 0 (suc (packed x))) (λ u. let z = simp tests at u in omega arith))
    go (some y) d = both (tested (same_letters y x)) (tested (eqb (suc (packed y)) (suc (packed x))))
      where
        g : KmerOf k t j y
        g = kmer_of k t j y d

        both : T (same_letters y x) ⊎ (¬ T (same_letters y x)) → T (eqb (suc (packed y)) (suc (packed x))) ⊎ (¬ T (eqb (suc (packed y)) (suc (packed x))))
            → same_letters y x ≡ eqb (suc (packed y)) (suc (packed x))
        both (inl p) (inl q) = T_true (same_letters y x) p ∙ sym (T_true (eqb (suc (packed y)) (suc (packed x))) q)
        both (inr p) (inr q) = T_false (same_letters y x) p ∙ sym (T_false (eqb (suc (packed y)) (suc (packed x))) q)
        both (inl p) (inr q) = absurd (q (simp tests (ap (λ (l : List ℕ). suc (packed l)) (same_letters_lem y x p))))
        both (inr p) (inl q) =
            let u : suc (packed y) ≡ suc (packed x) = simp tests at q in
            let v : packed y ≡ packed x = omega arith in
            absurd (p (subst (λ (l : List ℕ). T (same_letters y l)) (packed_same y x g.bases h.bases (g.long ∙ sym h.long) v) (letters_same y)))

-- where x is the k-mer of place i of a sequence, a sequence has it as often as its code
same_count : (k : ℕ) (s t : List ℕ) (i : ℕ) (x : List ℕ) → kmer_at k s i ≡ some x
    → count_to (λ j. same_kmer (kmer_at k t j) (some x)) (places k t) ≡ occurrences (codes k t) (kmer_code (some x))
unfolding occurrences
same_count k s t i x e =
    count_to_same (λ j. same_kmer (kmer_at k t j) (some x)) (λ j. eqb (code_at (codes k t) j) (kmer_code (some x))) (places k t)
    (λ j. same_code k s t i j x e ∙ ap (λ (n : ℕ). eqb n (kmer_code (some x))) (sym (code_at_lem k t j)))
    ∙ ap (λ (n : ℕ). count_to (λ j. eqb (code_at (codes k t) j) (kmer_code (some x))) n) (sym (codes_length k t))

eqb_sym : (m n : ℕ) → eqb m n ≡ eqb n m
eqb_sym m n = go (tested (eqb m n)) (tested (eqb n m))
  where
    go : T (eqb m n) ⊎ (¬ T (eqb m n)) → T (eqb n m) ⊎ (¬ T (eqb n m)) → eqb m n ≡ eqb n m
    go (inl p) (inl q) = T_true (eqb m n) p ∙ sym (T_true (eqb n m) q)
    go (inr p) (inr q) = T_false (eqb m n) p ∙ sym (T_false (eqb n m) q)
    go (inl p) (inr q) = absurd (q (simp tests (sym (simp tests at p))))
    go (inr p) (inl q) = absurd (p (simp tests (sym (simp tests at q))))

same_sides : (x : List ℕ) (o : Option (List ℕ)) → same_kmer (some x) o ≡ same_kmer o (some x)
same_sides x o = go (tested (same_kmer (some x) o)) (tested (same_kmer o (some x)))
  where
    go : T (same_kmer (some x) o) ⊎ (¬ T (same_kmer (some x) o)) → T (same_kmer o (some x)) ⊎ (¬ T (same_kmer o (some x)))
        → same_kmer (some x) o ≡ same_kmer o (some x)
    go (inl p) (inl q) = T_true (same_kmer (some x) o) p ∙ sym (T_true (same_kmer o (some x)) q)
    go (inr p) (inr q) = T_false (same_kmer (some x) o) p ∙ sym (T_false (same_kmer o (some x)) q)
    go (inl p) (inr q) = absurd (q (same_sym (some x) o p))
    go (inr p) (inl q) = absurd (p (same_sym o (some x) q))

-- matches are told from codes alone
pub match_by_code : (c : Settings) (s t : List ℕ) (y : Cell) → is_match c s t y ≡ code_match (codes c.k s) (codes c.k t) c.a y
unfolding is_match code_match same_kmer kmer_code total code_total occurrences
match_by_code c s t y = go (kmer_at c.k s y.row) refl
  where
    go : (o : Option (List ℕ)) → kmer_at c.k s y.row ≡ o → is_match c s t y ≡ code_match (codes c.k s) (codes c.k t) c.a y
    go none e = rw (e, code_at_lem c.k s y.row, e)
    go (some x) e =
        let some-code : ltb 0 (suc (packed x)) ≡ true = T_true (ltb 0 (suc (packed x))) (simp tests (omega arith)) in
        rw (
          e,
          code_at_lem c.k s y.row,
          e,
          code_at_lem c.k t y.column,
          same_count c.k s s y.row x e,
          same_count c.k s t y.row x e,
          same_sides x (kmer_at c.k t y.column),
          same_code c.k s t y.row y.column x e,
          eqb_sym (suc (packed x)) (kmer_code (kmer_at c.k t y.column)),
          some-code,
        )
