-- Document 01, "Places, matches and chains": matches, and the list of them by row, then column. Assumes nothing.
use Rattle.std.specs.Prelude.{Bool, cond, ◌&&◌, List, [], ◌∷◌, ◌++◌, ℕ, zero, suc, leb}
use Rattle.rules.specs.declared.Settings.{Settings}
pub use Rattle.rules.specs.declared.Cell.{Cell}
use Rattle.rules.specs.Places.{places, kmer_at, same_kmer, total}

-- "Row i is a place of the first sequence, column j of the second": the cell (i, j)
abbrev pub cell : ℕ → ℕ → Cell
cell i j = record { row = i; column = j }

-- "Match (i, j): both places have the same used k-mer." "A k-mer with a total above a is not used."
unfoldable pub is_match : Settings → List ℕ → List ℕ → Cell → Bool
unfolding same_kmer kmer_at total
is_match c first second x =
    let kmer = kmer_at c.k first x.row in
    same_kmer kmer (kmer_at c.k second x.column) && leb (total c.k first second kmer) c.a

-- ---- the list of the matches, for any test of which cells are matches

-- those of row i in columns 1 to j
unfoldable pub row_to : (Cell → Bool) → ℕ → ℕ → List Cell
row_to hit i zero = []
row_to hit i (suc j) = row_to hit i j ++ cond (hit (cell i (suc j))) (cell i (suc j) ∷ []) []

-- those of rows 1 to i, where there are so many columns
unfoldable pub matches_to : (Cell → Bool) → ℕ → ℕ → List Cell
unfolding row_to
matches_to hit columns zero = []
matches_to hit columns (suc i) = matches_to hit columns i ++ row_to hit (suc i) columns

-- all matches of a job
unfoldable pub matches : Settings → List ℕ → List ℕ → List Cell
unfolding matches_to is_match places
matches c first second = matches_to (is_match c first second) (places c.k second) (places c.k first)
