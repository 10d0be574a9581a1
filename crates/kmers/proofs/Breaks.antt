-- The break that is read is at the first letter that is no base, by induction over the letters of the place. Assumes nothing.
use mathlib.Core.Path.{◌≡◌, refl, ◌∙◌}
use mathlib.Core.Bool.{Bool, true, false, cond}
use mathlib.Core.List.{List, [], ◌∷◌}
use Prim.Native.Nat.{ℕ, zero, suc, ◌+◌, ◌-◌, ◌<◌, ◌≤◌}
use native.Mathlib.Nat.{not-suc-le-zero, le_of_suc-le-suc, le_antisymm}
use mathlib.Core.Logic.{⊎_elim}
use native.Mathlib.Omega.{arith}
use lib.Dec.{ltb}
use lib.ListN.{length, get_or, drop}
use lib.Seq.{get_or-take, get_or-drop}
use borrow.Author.Tests.{ltb-true, ltb-false}
use Rattle.rules.specs.Places.{base_of, all_bases, letters_at, packed}
use Rattle.kmers.specs.Reading.{first_break, read_place, BreaksAt}
use Rattle.kmers.specs.Reading.{Code, Break}
use Rattle.kmers.proofs.Tests.{le_or_lt}
use Rattle.kmers.proofs.Standing.{letters_most, code_not_break}

-- index i is that of the first letter that is no base
record First (xs : List ℕ) (i : ℕ) : Type 0 where
  inside : i < length xs
  bad : 4 ≤ base_of (get_or xs i 0)
  good : (j : ℕ) → j < i → base_of (get_or xs j 0) < 4

first_more : (x : ℕ) (xs : List ℕ) (i : ℕ) → base_of x < 4 → First xs i → First (x ∷ xs) (suc i)
first_more x xs i b f = record { inside = omega (arith, f.inside); bad = f.bad; good = go }
  where
    go : (j : ℕ) → j < suc i → base_of (get_or (x ∷ xs) j 0) < 4
    go zero h = b
    go (suc j) h = f.good j (le_of_suc-le-suc h)

first_break_lem : (xs : List ℕ) → all_bases xs ≡ false → First xs (first_break xs)
unfolding all_bases first_break
first_break_lem [] h = let z : ◌≡◌ {A = ℕ} 0 1 = cc in absurd (omega arith)
first_break_lem (x ∷ xs) h = go (ltb (base_of x) 4) refl (first_break_lem xs)
  where
    go : (t : Bool) → ltb (base_of x) 4 ≡ t → (all_bases xs ≡ false → First xs (first_break xs)) → First (x ∷ xs) (first_break (x ∷ xs))
    go true e rest = rw e (first_more x xs (first_break xs) (ltb-true (base_of x) 4 e) (rest (rw e at h)))
    go false e rest = rw e record { inside = omega arith; bad = ltb-false (base_of x) 4 e; good = λ j l. absurd (not-suc-le-zero l) }

-- the letters at a place are those of the sequence
letter_at : (k : ℕ) (s : List ℕ) (place i : ℕ) → i < k → get_or (letters_at k s place) i 0 ≡ get_or s (place - 1 + i) 0
unfolding letters_at
letter_at k s place i h = get_or-take k (drop (place - 1) s) i 0 h ∙ get_or-drop (place - 1) s i 0

first_breaks : (k : ℕ) (s : List ℕ) (place i : ℕ) → 1 ≤ place → First (letters_at k s place) i → BreaksAt s k place (place + i)
first_breaks k s place i h f =
    let short : i < k = omega (arith, f.inside, letters_most k s place) in
    let e : place + i - 1 ≡ place - 1 + i = omega arith in
    record { from = omega arith; inside = omega arith; bad = rw (e, ← letter_at k s place i short) f.bad; good = go short }
  where
    go : i < k → (p : ℕ) → place ≤ p → p < place + i → base_of (get_or s (p - 1) 0) < 4
    go short p l g =
        let e : p - 1 ≡ place - 1 + (p - place) = omega arith in
        rw (e, ← letter_at k s place (p - place) (omega arith)) (f.good (p - place) (omega arith))

break_is : (t : Bool) (n p q : ℕ) → cond t (Code n) (Break p) ≡ Break q → (t ≡ false) × (p ≡ q)
break_is true n p q e = absurd (code_not_break n q e)
break_is false n p q e = (refl, (cc))

pub break_first : (k : ℕ) (s : List ℕ) (place q : ℕ) → 1 ≤ place → read_place k s place ≡ Break q → BreaksAt s k place q
unfolding read_place
break_first k s place q h e =
    let letters = letters_at k s place in
    let b = break_is (all_bases letters) (packed letters) (place + first_break letters) q e in
    rw b.1 at (first_breaks k s place (first_break letters) h (first_break_lem letters b.0))

not_after : (s : List ℕ) (k place p q : ℕ) → BreaksAt s k place p → BreaksAt s k place q → p ≤ q
not_after s k place p q f g = ⊎_elim (λ l. l) (λ l. absurd (omega (arith, g.bad, f.good q g.from l))) (le_or_lt p q)

-- one place at most breaks first
pub break_unique : (s : List ℕ) (k place p q : ℕ) → BreaksAt s k place p → BreaksAt s k place q → p ≡ q
break_unique s k place p q f g = le_antisymm (not_after s k place p q f g) (not_after s k place q p g f)
