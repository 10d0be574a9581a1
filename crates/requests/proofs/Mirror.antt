-- The mirror law: turning the second sequence round gives the matches that turning the first one gives, read from the last place to the first, so that
-- the reverse strand can be swept over an index of the second sequence as it stands (CR 6). Assumes nothing.
use mathlib.Core.Path.{◌≡◌, refl, sym, ap, ap₂, subst, ◌∙◌}
use mathlib.Core.Logic.{◌⊎◌, inl, inr}
use mathlib.Core.Bool.{Bool, true, false, cond, ◌&&◌}
use mathlib.Core.Option.{Option, none, some}
use mathlib.Core.List.{List, [], ◌∷◌, ◌++◌}
use Prim.Native.Nat.{ℕ, zero, suc, ◌+◌, ◌-◌, ◌≤◌, ◌<◌}
use native.Mathlib.Omega.{arith}
use borrow.Author.Tests.{le-leb}
use lib.Dec.{T, leb, ltb, ltb→lt}
use lib.ListN.{length, get_or}
use Rattle.rules.specs.declared.Settings.{Settings}
use Rattle.rules.specs.Lists.{text, count_to}
use Rattle.rules.specs.Letters.{code_of, letter_as, complement, reverse_complement}
use Rattle.rules.specs.Places.{places, base_of, all_bases, letters_at, kmer_at, same_letters, same_kmer, total}
use Rattle.rules.specs.Matches.{cell, is_match}
use Rattle.rules.specs.Codes.{codes, code_match}
use Rattle.rules.specs.Strands.{turned}
use Rattle.rules.proofs.Tests.{tests, tested, T_false, same_test}
use Rattle.rules.proofs.Computed as Computed
use Rattle.rules.proofs.Computed.{at_each}
use Rattle.rules.proofs.ListLaws.{Placed, not_there, there, placed}
use Rattle.rules.proofs.Letters.{NoLetter, none_code, none_complement, each_byte, complement_twice}
use Rattle.rules.proofs.Kmers.{same_letters_lem, letters_same, kmer_of, kmer_outside, match_by_code}
use Rattle.rules.proofs.Strands.{turned_append, turned_places, letters_turned}

-- ---- bases

-- a base is a letter, computed at the four
coded : ℕ → Bool
coded n = ltb 0 (code_of (get_or (text "ACGT") n 0))

base_coded : (x : ℕ) → base_of x < 4 → 0 < code_of x
unfolding base_of coded code_of text
base_coded x h = go (placed 0 4 x (text "ACGT"))
  where
    go : Placed 0 4 x (text "ACGT") (base_of x) → 0 < code_of x
    go (not_there e) = absurd (omega arith)
    go (there p e l g) = subst (λ (y : ℕ). 0 < code_of y) g (ltb→lt 0 (code_of (get_or (text "ACGT") p 0)) (at_each coded 4 tt p l))

-- 1 for a base, 0 for any other byte
of_base : ℕ → ℕ
of_base x = cond (ltb (base_of x) 4) 1 0

-- the complement of a base is one, and no other byte's is: computed at every letter
complement_base : (x : ℕ) → ltb (base_of (complement x)) 4 ≡ ltb (base_of x) 4
unfolding of_base base_of complement letter_as text
complement_base x = Computed.same_test _ _ (each_byte (λ y. of_base (complement y)) of_base tt tt no_letter x)
  where
    no_letter : (y : ℕ) → NoLetter y → of_base (complement y) ≡ of_base y
    no_letter y n =
        ap of_base (none_complement y n)
        ∙ sym (ap (λ (t : Bool). cond {A = ℕ} t 1 0) (T_false (ltb (base_of y) 4) (λ u. omega (arith, base_coded y (simp tests at u), none_code y n))))

-- ---- a k-mer turned round

abbrev pub turn_kmer : Option (List ℕ) → Option (List ℕ)
turn_kmer none = none
turn_kmer (some x) = some (reverse_complement x)

bases_append : (xs ys : List ℕ) → all_bases (xs ++ ys) ≡ all_bases xs && all_bases ys
unfolding all_bases
bases_append [] ys = refl
bases_append (x ∷ xs) ys = go (ltb (base_of x) 4) (bases_append xs ys)
  where
    go : (t : Bool) → all_bases (xs ++ ys) ≡ all_bases xs && all_bases ys → t && all_bases (xs ++ ys) ≡ (t && all_bases xs) && all_bases ys
    go true e = e
    go false e = refl

turned_bases : (xs : List ℕ) → all_bases (reverse_complement xs) ≡ all_bases xs
unfolding all_bases reverse_complement
turned_bases [] = refl
turned_bases (x ∷ xs) =
    bases_append (reverse_complement xs) (complement x ∷ []) ∙ go (all_bases (reverse_complement xs)) (ltb (base_of (complement x)) 4) (turned_bases xs) (complement_base x)
  where
    go : (t u : Bool) → t ≡ all_bases xs → u ≡ ltb (base_of x) 4 → t && (u && true) ≡ ltb (base_of x) 4 && all_bases xs
    go true true e f = rw (← e, ← f)
    go true false e f = rw (← e, ← f)
    go false true e f = rw (← e, ← f)
    go false false e f = rw (← e, ← f)

bases_twice : (xs : List ℕ) → T (all_bases xs) → reverse_complement (reverse_complement xs) ≡ xs
unfolding all_bases reverse_complement
bases_twice [] t = refl
bases_twice (x ∷ xs) t =
    let h = simp tests at t in
    turned_append (reverse_complement xs) (complement x ∷ []) ∙ ap₂ {C = List ℕ} (λ y ys. y ∷ ys) (complement_twice x (base_coded x h.0)) (bases_twice xs h.1)

-- where there is a k-mer, its letters are bases
abbrev pub Bases : Option (List ℕ) → Type 0
Bases none = Unit {0}
Bases (some x) = T (all_bases x)

pub kmer_bases : (k : ℕ) (s : List ℕ) (i : ℕ) → Bases (kmer_at k s i)
kmer_bases k s i = go (kmer_at k s i) refl
  where
    go : (o : Option (List ℕ)) → kmer_at k s i ≡ o → Bases o
    go none e = tt
    go (some x) e = (kmer_of k s i x e).bases

turn_twice : (o : Option (List ℕ)) → Bases o → turn_kmer (turn_kmer o) ≡ o
turn_twice none h = refl
turn_twice (some x) h = ap {B = Option (List ℕ)} (λ l. some l) (bases_twice x h)

turn_same : (a b : Option (List ℕ)) → T (same_kmer a b) → T (same_kmer (turn_kmer a) (turn_kmer b))
unfolding same_kmer
turn_same none b t = absurd t
turn_same (some x) none t = absurd t
turn_same (some x) (some y) t = subst (λ (l : List ℕ). T (same_letters (reverse_complement x) (reverse_complement l))) (same_letters_lem x y t) (letters_same (reverse_complement x))

module _ (a b : Option (List ℕ)) (ha : Bases a) (hb : Bases b) where
  -- two k-mers are the same where they are when both are turned
  same_turned : same_kmer (turn_kmer a) (turn_kmer b) ≡ same_kmer a b
  same_turned =
      same_test _ _ (λ t. subst (λ (o : Option (List ℕ)). T (same_kmer o b)) (turn_twice a ha)
      (subst (λ (o : Option (List ℕ)). T (same_kmer (turn_kmer (turn_kmer a)) o)) (turn_twice b hb) (turn_same (turn_kmer a) (turn_kmer b) t))) (turn_same a b)

  -- and it is the same to turn one or the other
  same_across : same_kmer a (turn_kmer b) ≡ same_kmer (turn_kmer a) b
  same_across =
      same_test _ _ (λ t. subst (λ (o : Option (List ℕ)). T (same_kmer (turn_kmer a) o)) (turn_twice b hb) (turn_same a (turn_kmer b) t))
      (λ t. subst (λ (o : Option (List ℕ)). T (same_kmer o (turn_kmer b))) (turn_twice a ha) (turn_same (turn_kmer a) b t))

-- ---- the k-mer at a place, from the other end

kmer_in : (k : ℕ) (s : List ℕ) (i : ℕ) → 1 ≤ i → i ≤ places k s → kmer_at k s i ≡ cond (all_bases (letters_at k s i)) (some (letters_at k s i)) none
unfolding kmer_at
kmer_in k s i h g = rw (le-leb 1 i h, le-leb i (places k s) g)

-- places i and i' are as far from either end
pub kmer_turned : (k : ℕ) (s : List ℕ) (i i' : ℕ) → i + i' ≡ places k s + 1 → kmer_at k (reverse_complement s) i ≡ turn_kmer (kmer_at k s i')
unfolding places turned
kmer_turned k s i i' e = go (tested (leb 1 i && leb i (places k s)))
  where
    size : places k (reverse_complement s) ≡ places k s
    size = turned_places k s

    go : T (leb 1 i && leb i (places k s)) ⊎ (¬ T (leb 1 i && leb i (places k s))) → kmer_at k (reverse_complement s) i ≡ turn_kmer (kmer_at k s i')
    go (inr f) =
        let n = simp tests at f in
        kmer_outside k (reverse_complement s) i (λ h. n (h.0, omega (arith, h.1, size)))
        ∙ ap turn_kmer (sym (kmer_outside k s i' (λ h. n (omega (arith, h), omega (arith, h)))))
    go (inl t) =
        let h = simp tests at t in
        let at : turned (length s) (i + k - 1) ≡ i' = omega (arith, h) in
        let letters : letters_at k (reverse_complement s) i ≡ reverse_complement (letters_at k s i') =
        letters_turned k s i h.0 (omega (arith, h)) ∙ ap (λ (p : ℕ). reverse_complement (letters_at k s p)) at in
        kmer_in k (reverse_complement s) i h.0 (omega (arith, h.1, size))
        ∙ ap (λ (l : List ℕ). cond {A = Option (List ℕ)} (all_bases l) (some l) none) letters
        ∙ turn_cond (letters_at k s i')
        ∙ ap turn_kmer (sym (kmer_in k s i' (omega (arith, h)) (omega (arith, h))))
      where
        turn_cond : (l : List ℕ) → cond {A = Option (List ℕ)} (all_bases (reverse_complement l)) (some (reverse_complement l)) none ≡ turn_kmer (cond (all_bases l) (some l) none)
        turn_cond l = rw (turned_bases l) (pass (all_bases l))
          where
            pass : (u : Bool) → cond {A = Option (List ℕ)} u (some (reverse_complement l)) none ≡ turn_kmer (cond u (some l) none)
            pass true = refl
            pass false = refl

-- ---- totals

count_to_first : (f : ℕ → Bool) (n : ℕ) → count_to f (suc n) ≡ cond (f 1) 1 0 + count_to (λ i. f (suc i)) n
unfolding count_to
count_to_first f zero = omega arith
count_to_first f (suc n) = omega (arith, count_to_first f n)

-- what is counted from the first place to the last can be counted from the last to the first
pub count_to_turned : (f g : ℕ → Bool) (n : ℕ) → ((i i' : ℕ) → i + i' ≡ n + 1 → f i ≡ g i') → count_to f n ≡ count_to g n
unfolding count_to
count_to_turned f g zero h = refl
count_to_turned f g (suc n) h =
    let e = count_to_turned f (λ i. g (suc i)) n (λ i i' q. h i (suc i') (omega arith)) in
    let d : cond {A = ℕ} (f (suc n)) 1 0 ≡ cond (g 1) 1 0 = ap (λ (t : Bool). cond {A = ℕ} t 1 0) (h (suc n) 1 (omega arith)) in
    omega (arith, count_to_first g n)

-- the total of a turned k-mer in a sequence turned and another as it stands
pub total_turned : (k : ℕ) (s t : List ℕ) (x : Option (List ℕ)) → Bases x → total k s (reverse_complement t) x ≡ total k (reverse_complement s) t (turn_kmer x)
unfolding total
total_turned k s t x hx = ap₂ {C = ℕ} (λ m n. m + n) in_first in_second
  where
    in_first : count_to (λ i. same_kmer (kmer_at k s i) x) (places k s) ≡ count_to (λ i. same_kmer (kmer_at k (reverse_complement s) i) (turn_kmer x)) (places k (reverse_complement s))
    in_first =
        count_to_turned (λ i. same_kmer (kmer_at k s i) x) (λ i. same_kmer (kmer_at k (reverse_complement s) i) (turn_kmer x)) (places k s)
        (λ i i' e. sym (same_turned (kmer_at k s i) x (kmer_bases k s i) hx)
        ∙ ap (λ (o : Option (List ℕ)). same_kmer o (turn_kmer x)) (sym (kmer_turned k s i' i (omega arith))))
        ∙ ap (count_to (λ i. same_kmer (kmer_at k (reverse_complement s) i) (turn_kmer x))) (sym (turned_places k s))

    in_second : count_to (λ j. same_kmer (kmer_at k (reverse_complement t) j) x) (places k (reverse_complement t)) ≡ count_to (λ j. same_kmer (kmer_at k t j) (turn_kmer x)) (places k t)
    in_second =
        ap (count_to (λ j. same_kmer (kmer_at k (reverse_complement t) j) x)) (turned_places k t)
        ∙ count_to_turned (λ j. same_kmer (kmer_at k (reverse_complement t) j) x) (λ j. same_kmer (kmer_at k t j) (turn_kmer x)) (places k t)
        (λ j j' e. ap (λ (o : Option (List ℕ)). same_kmer o x) (kmer_turned k t j j' e) ∙ sym (same_across (kmer_at k t j') x (kmer_bases k t j') hx))

-- ---- THE MIRROR LAW: cells as far from either end

module _ (c : Settings) (s t : List ℕ) where
  pub mirrored_at : (i i' j j' : ℕ) → i + i' ≡ places c.k s + 1 → j + j' ≡ places c.k t + 1
      → is_match c s (reverse_complement t) (cell i j) ≡ is_match c (reverse_complement s) t (cell i' j')
  unfolding is_match
  mirrored_at i i' j j' ei ej =
      let x = kmer_at c.k s i in
      let y = kmer_at c.k t j' in
      ap (λ (o : Option (List ℕ)). same_kmer x o && leb (total c.k s (reverse_complement t) x) c.a) (kmer_turned c.k t j j' ej)
      ∙ ap₂ {C = Bool} (λ u n. u && leb n c.a) (same_across x y (kmer_bases c.k s i) (kmer_bases c.k t j')) (total_turned c.k s t x (kmer_bases c.k s i))
      ∙ ap (λ (o : Option (List ℕ)). same_kmer o y && leb (total c.k (reverse_complement s) t o) c.a) (sym (kmer_turned c.k s i' i (omega arith)))

  -- so the reverse strand's matches are told from the codes of the first sequence turned and of the second as it stands
  pub mirrored_by_code : (i i' j j' : ℕ) → i + i' ≡ places c.k s + 1 → j + j' ≡ places c.k t + 1
      → is_match c s (reverse_complement t) (cell i j) ≡ code_match (codes c.k (reverse_complement s)) (codes c.k t) c.a (cell i' j')
  mirrored_by_code i i' j j' ei ej = mirrored_at i i' j j' ei ej ∙ match_by_code c (reverse_complement s) t (cell i' j')
