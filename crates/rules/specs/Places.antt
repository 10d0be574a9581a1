-- Document 01, "Settings and letters" and "Places, matches and chains": places, k-mers, their packed code, totals. Assumes nothing.
use Rattle.std.specs.Prelude.{Bool, true, false, cond, ◌&&◌, List, [], ◌∷◌, ℕ, suc, ◌+◌, ◌-◌, ◌*◌, leb, ltb, eqb, length, take, drop}
use Rattle.std.proofs.Math.Option.{Option, none, some}
use Rattle.rules.specs.Lists.{text, place_from, count_to}

-- "A sequence of L letters has L - k + 1 places, or none if L < k." They count from 1
unfoldable pub places : ℕ → List ℕ → ℕ
places k s = suc (length s) - k

-- "Only A, C, G and T form k-mers." Two bits a base, "A 0, C 1, G 2, T 3"; 4 for a byte that is no base
unfoldable pub base_of : ℕ → ℕ
unfolding text place_from
base_of x = place_from 0 4 x (text "ACGT")

unfoldable pub all_bases : List ℕ → Bool
unfolding base_of
all_bases [] = true
all_bases (x ∷ xs) = ltb (base_of x) 4 && all_bases xs

-- the k letters at a place
unfoldable pub letters_at : ℕ → List ℕ → ℕ → List ℕ
letters_at k s place = take k (drop (place - 1) s)

-- the k-mer at a place is its k letters. "A place whose k letters are not all A, C, G or T has no k-mer", and there is none outside the places
unfoldable pub kmer_at : ℕ → List ℕ → ℕ → Option (List ℕ)
unfolding places letters_at all_bases
kmer_at k s place =
    let letters = letters_at k s place in
    cond (leb 1 place && leb place (places k s) && all_bases letters) (some letters) none

-- "A k-mer packs into two bits a base, the first base highest": the letters after those that n packs
unfoldable pub pack_on : ℕ → List ℕ → ℕ
unfolding base_of
pack_on n [] = n
pack_on n (x ∷ xs) = pack_on (n * 4 + base_of x) xs

unfoldable pub packed : List ℕ → ℕ
unfolding pack_on
packed kmer = pack_on 0 kmer

unfoldable pub same_letters : List ℕ → List ℕ → Bool
same_letters [] [] = true
same_letters [] (y ∷ ys) = false
same_letters (x ∷ xs) [] = false
same_letters (x ∷ xs) (y ∷ ys) = eqb x y && same_letters xs ys

-- both are there, and are the same k-mer
unfoldable pub same_kmer : Option (List ℕ) → Option (List ℕ) → Bool
unfolding same_letters
same_kmer none y = false
same_kmer (some x) none = false
same_kmer (some x) (some y) = same_letters x y

-- "Total of a k-mer: its occurrences in both sequences together."
unfoldable pub total : ℕ → List ℕ → List ℕ → Option (List ℕ) → ℕ
unfolding count_to same_kmer kmer_at places
total k first second x =
    count_to (λ i. same_kmer (kmer_at k first i) x) (places k first) + count_to (λ j. same_kmer (kmer_at k second j) x) (places k second)
