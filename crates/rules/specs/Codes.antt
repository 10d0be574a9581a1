-- Document 01: "The sweep relies only on equal codes meaning equal k-mers." The number that stands for a place below the sweep, and matches
-- told from these numbers alone. That they are the matches of Matches.antt is proved (proofs/Theorems.antt). Assumes nothing.
use Rattle.std.specs.Prelude.{Bool, ◌&&◌, List, [], ◌∷◌, ◌++◌, ℕ, zero, suc, ◌+◌, leb, ltb, eqb, length, get_or}
use Rattle.std.proofs.Math.Option.{Option, none, some}
use Rattle.rules.specs.Lists.{count_to}
use Rattle.rules.specs.Places.{places, kmer_at, packed}
use Rattle.rules.specs.Matches.{Cell}

-- one more than the packed k-mer, and 0 for none
unfoldable pub kmer_code : Option (List ℕ) → ℕ
unfolding packed
kmer_code none = 0
kmer_code (some x) = suc (packed x)

-- the codes of places 1 to n
unfoldable pub codes_to : ℕ → List ℕ → ℕ → List ℕ
unfolding kmer_code kmer_at
codes_to k s zero = []
codes_to k s (suc n) = codes_to k s n ++ (kmer_code (kmer_at k s (suc n)) ∷ [])

-- the codes of all places of a sequence
unfoldable pub codes : ℕ → List ℕ → List ℕ
unfolding codes_to places
codes k s = codes_to k s (places k s)

-- the code at a place of a list of codes, 0 outside it
unfoldable pub code_at : List ℕ → ℕ → ℕ
code_at xs zero = 0
code_at xs (suc p) = get_or xs p 0

-- how many places of a list have the code c
unfoldable pub occurrences : List ℕ → ℕ → ℕ
unfolding count_to code_at
occurrences xs c = count_to (λ p. eqb (code_at xs p) c) (length xs)

-- the occurrences of a code in both lists together
unfoldable pub code_total : List ℕ → List ℕ → ℕ → ℕ
unfolding occurrences
code_total first second c = occurrences first c + occurrences second c

-- (i, j) is a match of two lists of codes: the same code at both places, not 0, and a total not above a
unfoldable pub code_match : List ℕ → List ℕ → ℕ → Cell → Bool
unfolding code_at code_total
code_match first second a x =
    let c = code_at first x.row in ltb 0 c && eqb c (code_at second x.column) && leb (code_total first second c) a
