-- Which k-mer stands at a place, and what is read there: inside the places both go by one test. Assumes nothing.
use mathlib.Core.Path.{◌≡◌, refl, sym, ◌∙◌, ap}
use mathlib.Core.Bool.{Bool, true, false, cond}
use mathlib.Core.List.{List}
use mathlib.Core.Option.{Option, none, some}
use mathlib.Core.Logic.{◌↔◌}
use Prim.Native.Nat.{ℕ, suc, ◌+◌, ◌-◌, ◌≤◌}
use native.Mathlib.Omega.{arith}
use lib.ListN.{length, take, drop, length-take}
use borrow.Author.Tests.{le-leb}
use Rattle.rules.specs.Places.{places, all_bases, letters_at, kmer_at, packed}
use Rattle.kmers.specs.Reading.{first_break, read_place}
use Rattle.kmers.specs.Reading.{Code, Break}

pub kmer_inside : (k : ℕ) (s : List ℕ) (place : ℕ) → 1 ≤ place → place ≤ places k s
    → kmer_at k s place ≡ cond (all_bases (letters_at k s place)) (some (letters_at k s place)) none
unfolding kmer_at
kmer_inside k s place h l = rw (le-leb 1 place h, le-leb place (places k s) l)

-- a place has at most k letters
pub letters_most : (k : ℕ) (s : List ℕ) (place : ℕ) → length (letters_at k s place) ≤ k
unfolding letters_at
letters_most k s place = rw (length-take k (drop (place - 1) s)) (omega arith)

-- the letters at a place by their first index
pub letters_from : (k : ℕ) (s : List ℕ) (p : ℕ) → letters_at k s (suc p) ≡ take k (drop p s)
unfolding letters_at
letters_from k s p =
    let e : suc p - 1 ≡ p = omega arith in
    rw e

pub code_not_break : (n p : ℕ) → ¬ (Code n ≡ Break p)
code_not_break n p e = let z : ◌≡◌ {A = ℕ} 0 1 = cc in absurd (omega arith)

some_not_none : (x : List ℕ) → ¬ (some x ≡ none)
some_not_none x e = let z : ◌≡◌ {A = ℕ} 0 1 = cc in absurd (omega arith)

-- what is read, and the k-mer that stands there, go by the same test
code_by : (t : Bool) (letters : List ℕ) (kmer : Option (List ℕ)) (p n : ℕ) → kmer ≡ cond t (some letters) none
    → cond t (Code (packed letters)) (Break p) ≡ Code n ↔ ((x : List ℕ) × (kmer ≡ some x) × (packed x ≡ n))
code_by true letters kmer p n e = (λ q. (letters, e, (cc)), λ w. let same : letters ≡ w.0 = cc in ap Code (ap packed same ∙ w.2))
code_by false letters kmer p n e = (λ q. absurd (code_not_break n p (sym q)), λ w. absurd (some_not_none w.0 (sym w.1 ∙ e)))

break_by : (t : Bool) (letters : List ℕ) (kmer : Option (List ℕ)) (p : ℕ) → kmer ≡ cond t (some letters) none
    → ((q : ℕ) × (cond t (Code (packed letters)) (Break p) ≡ Break q)) ↔ (kmer ≡ none)
break_by true letters kmer p e = (λ w. absurd (code_not_break (packed letters) w.0 w.1), λ q. absurd (some_not_none letters (sym e ∙ q)))
break_by false letters kmer p e = (λ w. e, λ q. (p, refl))

-- a code is read exactly where a k-mer stands, and is that k-mer packed
pub read_code : (k : ℕ) (s : List ℕ) (place n : ℕ) → 1 ≤ place → place ≤ places k s
    → read_place k s place ≡ Code n ↔ ((x : List ℕ) × (kmer_at k s place ≡ some x) × (packed x ≡ n))
unfolding read_place
read_code k s place n h l =
    let letters = letters_at k s place in
    code_by (all_bases letters) letters (kmer_at k s place) (place + first_break letters) n (kmer_inside k s place h l)

-- and a break exactly where none does
pub read_break : (k : ℕ) (s : List ℕ) (place : ℕ) → 1 ≤ place → place ≤ places k s
    → ((q : ℕ) × (read_place k s place ≡ Break q)) ↔ (kmer_at k s place ≡ none)
unfolding read_place
read_break k s place h l =
    let letters = letters_at k s place in
    break_by (all_bases letters) letters (kmer_at k s place) (place + first_break letters) (kmer_inside k s place h l)
