-- Reading a place letter by letter: as long as all letters were bases, those ahead have the answer. Assumes nothing.
use mathlib.Core.Path.{◌≡◌, refl, sym, ◌∙◌}
use mathlib.Core.Bool.{Bool, true, false, cond}
use mathlib.Core.List.{List, [], ◌∷◌}
use Prim.Native.Nat.{ℕ, suc, ◌+◌, ◌-◌, ◌*◌, ◌^◌, ◌<◌, ◌≤◌}
use native.Mathlib.Nat.{add-zero, sub-zero}
use native.Mathlib.Omega.{arith}
use lib.Dec.{ltb}
use lib.ListN.{length, get_or, take, drop}
use lib.Pow.{pow_mono}
use lib.Seq.{drop-cons}
use borrow.Author.Tests.{lt-ltb, le-ltb}
use Rattle.rules.specs.Places.{base_of, all_bases, letters_at, pack_on, packed}
use Rattle.kmers.specs.Reading.{first_break, read_place}
use Rattle.kmers.specs.Reading.{Kmer, Code, Break}
use Rattle.kmers.proofs.Packing.{pow_two}

-- what is read of letters that stand from `place` on, after bases that n packs
unfoldable pub read_on : ℕ → ℕ → List ℕ → Kmer
read_on n place [] = Code n
read_on n place (x ∷ xs) = let r = read_on (n * 4 + base_of x) (suc place) xs in cond (ltb (base_of x) 4) r (Break place)

read_on_lem : (n place : ℕ) (xs : List ℕ) → read_on n place xs ≡ cond (all_bases xs) (Code (pack_on n xs)) (Break (place + first_break xs))
unfolding read_on all_bases pack_on first_break
read_on_lem n place [] = refl
read_on_lem n place (x ∷ xs) = go (ltb (base_of x) 4) refl (read_on_lem (n * 4 + base_of x) (suc place) xs)
  where
    go : (t : Bool) → ltb (base_of x) 4 ≡ t
        → read_on (n * 4 + base_of x) (suc place) xs ≡ cond (all_bases xs) (Code (pack_on (n * 4 + base_of x) xs)) (Break (suc place + first_break xs))
        → read_on n place (x ∷ xs) ≡ cond (all_bases (x ∷ xs)) (Code (pack_on n (x ∷ xs))) (Break (place + first_break (x ∷ xs)))
    go true e r =
        let next : suc place + first_break xs ≡ place + suc (first_break xs) = omega arith in
        rw e (r ∙ rw next)
    go false e r = rw (e, add-zero place)

-- the first `read` letters of the place are bases, and `code` packs them
pub record Reading (s : List ℕ) (k place code read : ℕ) : Type 0 where
  pub within : read ≤ k
  pub small : code < 2 ^ (2 * read)
  pub ahead : read_place k s place ≡ read_on code (place + read) (take (k - read) (drop (place - 1 + read) s))

pub reading_start : (s : List ℕ) (k place : ℕ) → Reading s k place 0 0
unfolding read_place letters_at packed
reading_start s k place = record {
  within = omega arith;
  small = omega arith;
  ahead = rw (add-zero place, add-zero (place - 1), sub-zero k) (sym (read_on_lem 0 place (take k (drop (place - 1) s))));
}

pub reading_62 : (s : List ℕ) (k place code read : ℕ) → k ≤ 31 → Reading s k place code read → code < 2 ^ 62
reading_62 s k place code read h r =
    let m : 2 ^ (2 * read) ≤ 2 ^ 62 = pow_mono {i = 2 * read} {j = 62} (omega (arith, r.within)) in
    omega (arith, r.small)

-- the next letter stands before those after it
ahead_cons : (s : List ℕ) (k place read : ℕ) → read < k → place - 1 + read < length s
    → take (k - read) (drop (place - 1 + read) s) ≡ get_or s (place - 1 + read) 0 ∷ take (k - (read + 1)) (drop (place - 1 + (read + 1)) s)
ahead_cons s k place read h l =
    let e : k - read ≡ suc (k - (read + 1)) = omega arith in
    let n : place - 1 + (read + 1) ≡ suc (place - 1 + read) = omega arith in
    rw (e, n, drop-cons s (place - 1 + read) 0 l)

pub reading_break : (s : List ℕ) (k place code read : ℕ) → read < k → place - 1 + read < length s → 4 ≤ base_of (get_or s (place - 1 + read) 0)
    → Reading s k place code read → Break (place + read) ≡ read_place k s place
unfolding read_on
reading_break s k place code read h l b r =
    let no : ltb (base_of (get_or s (place - 1 + read) 0)) 4 ≡ false = le-ltb (base_of (get_or s (place - 1 + read) 0)) 4 b in
    sym (r.ahead ∙ rw (ahead_cons s k place read h l, no))

pub reading_next : (s : List ℕ) (k place code read code' : ℕ) → read < k → place - 1 + read < length s → base_of (get_or s (place - 1 + read) 0) < 4
    → code' ≡ code * 4 + base_of (get_or s (place - 1 + read) 0) → Reading s k place code read → Reading s k place code' (read + 1)
unfolding read_on
reading_next s k place code read code' h l b c r =
    let yes : ltb (base_of (get_or s (place - 1 + read) 0)) 4 ≡ true = lt-ltb (base_of (get_or s (place - 1 + read) 0)) 4 b in
    let n : place + (read + 1) ≡ suc (place + read) = omega arith in
    let two : 2 * (read + 1) ≡ 2 * suc read = omega arith in
    record {
      within = omega arith;
      small = rw (two, pow_two read) (omega (arith, r.small));
      ahead = r.ahead ∙ rw (ahead_cons s k place read h l, yes, n, c);
    }

pub reading_end : (s : List ℕ) (k place code read : ℕ) → k ≤ read → Reading s k place code read → Code code ≡ read_place k s place
unfolding read_on
reading_end s k place code read h r =
    let e : k - read ≡ 0 = omega arith in
    sym (r.ahead ∙ rw e)
