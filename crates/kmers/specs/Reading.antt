-- What is read at a place, in the words of document 01. Assumes nothing.
use Rattle.std.specs.Prelude.{Option, Some, None, Result, Ok, Err, cond, List, [], ◌∷◌, ℕ, zero, suc, ◌+◌, ◌-◌, ◌<◌, ◌≤◌, ltb, get_or}
use Rattle.rules.specs.Places.{base_of, all_bases, letters_at, packed}
use Rattle.kmers.specs.declared.Broken.{Broken}

-- what stands at a place: a k-mer, packed, or none, and then the first place whose letter is no base
pub data Kmer : Type 0 where
  Code : ℕ → Kmer
  Break : ℕ → Kmer

-- the bits of a letter that are looked at under a mask setting: all but bit 5, which lower case has and its capital has not, or all
unfoldable pub sees_of : ℕ → ℕ
sees_of zero = 223
sees_of (suc n) = 255

-- how many letters stand before the first that is no base
unfoldable pub first_break : List ℕ → ℕ
unfolding base_of
first_break [] = 0
first_break (x ∷ xs) = let r = first_break xs in cond (ltb (base_of x) 4) (suc r) 0

-- "A place whose k letters are not all A, C, G or T has no k-mer": the packed k-mer, or the first place whose letter breaks it
unfoldable pub read_place : ℕ → List ℕ → ℕ → Kmer
unfolding letters_at all_bases packed first_break
read_place k s place =
    let letters = letters_at k s place in
    cond (all_bases letters) (Code (packed letters)) (Break (place + first_break letters))

-- what a break says, in words of places: of the k letters at `place` the one at `broken` is no base, and each before it is
pub record BreaksAt (s : List ℕ) (k place broken : ℕ) : Type 0 where
  pub from : place ≤ broken
  pub inside : broken < place + k
  pub bad : 4 ≤ base_of (get_or s (broken - 1) 0)
  pub good : (p : ℕ) → place ≤ p → p < broken → base_of (get_or s (p - 1) 0) < 4

-- a base, of which there are four
unfoldable pub some_base : ℕ → Option ℕ
some_base b = cond (ltb b 4) (Some b) None

-- as `kmers::read_place` returns it
unfoldable pub as_result : Kmer → Result ℕ Broken
as_result (Code n) = Ok n
as_result (Break p) = Err (record { place = p })
