-- The mirror law on whole lists of codes: the reverse strand's matches are those of two lists of codes read backwards, the first sequence's turned and the
-- second's as it stands (CR 6). Assumes nothing.
use mathlib.Core.Path.{◌≡◌, sym, ap, subst, subst⁻¹, ◌∙◌}
use mathlib.Core.Bool.{Bool}
use mathlib.Core.List.{List, [], ◌∷◌, reverse, reverse-cons}
use Prim.Native.Nat.{ℕ, zero, suc, ◌+◌, ◌-◌, ◌≤◌}
use native.Mathlib.Omega.{arith}
use lib.Dec.{T, ltb, eqb}
use lib.ListN.{length, get_or, length-reverse, get_or-append}
use lib.Seq.{get_or_at}
use Rattle.rules.specs.declared.Cell.{Cell}
use Rattle.rules.specs.declared.Settings.{Settings}
use Rattle.rules.specs.Lists.{count_to}
use Rattle.rules.specs.Letters.{reverse_complement}
use Rattle.rules.specs.Places.{places}
use Rattle.rules.specs.Matches.{cell, is_match}
use Rattle.rules.specs.Codes.{codes, code_at, occurrences, code_total, code_match}
use Rattle.requests.specs.Index.{has_kmer, kmer_places}
use Rattle.rules.proofs.Tests.{tests, same_test}
use Rattle.rules.proofs.Jobs.{match_inside}
use Rattle.rules.proofs.Kmers.{codes_length}
use Rattle.rules.proofs.Strands.{turned_places}
use Rattle.requests.proofs.Mirror.{count_to_turned, mirrored_by_code}
use Rattle.requests.proofs.Index.{code_outside, code_inside}

-- ---- a list read backwards

pub at_back : (xs : List ℕ) (p q : ℕ) → p + q + 1 ≡ length xs → get_or (reverse xs) p 0 ≡ get_or xs q 0
at_back [] p q e = absurd (omega arith)
at_back (x ∷ xs) p zero e = rw (reverse-cons x xs) (get_or_at (reverse xs) x [] 0 p (omega (arith, length-reverse xs)))
at_back (x ∷ xs) p (suc q) e =
    rw (reverse-cons x xs) (get_or-append (reverse xs) (x ∷ []) 0 p (omega (arith, length-reverse xs)) ∙ at_back xs p q (omega arith))

-- places p and p' are as far from either end
pub code_back : (xs : List ℕ) (p p' : ℕ) → p + p' ≡ length xs + 1 → code_at (reverse xs) p ≡ code_at xs p'
unfolding code_at
code_back xs zero p' e = sym (code_outside xs p' (omega arith))
code_back xs (suc p) zero e = code_outside (reverse xs) (suc p) (omega (arith, length-reverse xs))
code_back xs (suc p) (suc q) e = at_back xs p q (omega arith)

pub occurrences_back : (xs : List ℕ) (d : ℕ) → occurrences (reverse xs) d ≡ occurrences xs d
unfolding occurrences
occurrences_back xs d =
    ap (count_to (λ p. eqb (code_at (reverse xs) p) d)) (length-reverse xs)
    ∙ count_to_turned (λ p. eqb (code_at (reverse xs) p) d) (λ p. eqb (code_at xs p) d) (length xs) (λ p p' e. ap (λ (n : ℕ). eqb n d) (code_back xs p p' e))

-- as many places have a k-mer
pub kmers_back : (xs : List ℕ) → kmer_places (reverse xs) ≡ kmer_places xs
unfolding kmer_places has_kmer
kmers_back xs =
    ap (count_to (λ p. ltb 0 (code_at (reverse xs) p))) (length-reverse xs)
    ∙ count_to_turned (λ p. ltb 0 (code_at (reverse xs) p)) (λ p. ltb 0 (code_at xs p)) (length xs) (λ p p' e. ap (λ (n : ℕ). ltb 0 n) (code_back xs p p' e))

module _ (first second : List ℕ) (a : ℕ) where
  pub match_back : (i i' j j' : ℕ) → i + i' ≡ length first + 1 → j + j' ≡ length second + 1
      → code_match (reverse first) (reverse second) a (cell i j) ≡ code_match first second a (cell i' j')
  unfolding code_match code_total
  match_back i i' j j' ei ej =
      rw (code_back first i i' ei, code_back second j j' ej, occurrences_back first (code_at first i'), occurrences_back second (code_at first i'))

-- ---- THE MIRROR LAW, on lists: what finds matches from two lists of codes finds the reverse strand's from these two

module _ (c : Settings) (s t : List ℕ) where
  abbrev pub first_back : List ℕ
  first_back = reverse (codes c.k (reverse_complement s))

  abbrev pub second_back : List ℕ
  second_back = reverse (codes c.k t)

  within : (i j : ℕ) → i ≤ places c.k s → j ≤ places c.k t → is_match c s (reverse_complement t) (cell i j) ≡ code_match first_back second_back c.a (cell i j)
  within i j hi hj =
      let i' : ℕ = places c.k s + 1 - i in
      let j' : ℕ = places c.k t + 1 - j in
      mirrored_by_code c s t i i' j j' (omega arith) (omega arith)
      ∙ sym (match_back (codes c.k (reverse_complement s)) (codes c.k t) c.a i i' j j'
      (omega (arith, codes_length c.k (reverse_complement s), turned_places c.k s)) (omega (arith, codes_length c.k t)))

  pub mirrored_lists : (y : Cell) → is_match c s (reverse_complement t) y ≡ code_match first_back second_back c.a y
  unfolding code_match
  mirrored_lists y = same_test _ _ forth back
    where
      forth : T (is_match c s (reverse_complement t) y) → T (code_match first_back second_back c.a y)
      forth u =
          let h = match_inside c s (reverse_complement t) y u in
          subst (λ (v : Bool). T v) (within y.row y.column h.row_until (omega (arith, h.column_until, turned_places c.k t))) u

      back : T (code_match first_back second_back c.a y) → T (is_match c s (reverse_complement t) y)
      back u =
          let h = simp tests at u in
          let row = code_inside first_back y.row (omega arith) in
          let column = code_inside second_back y.column (omega arith) in
          subst⁻¹ (λ (v : Bool). T v)
          (within y.row y.column (omega (arith, row.1, length-reverse (codes c.k (reverse_complement s)), codes_length c.k (reverse_complement s), turned_places c.k s))
          (omega (arith, column.1, length-reverse (codes c.k t), codes_length c.k t))) u
