-- Document 01, "Rooms and tallies": records in numbers, the run of rows that work room holds, M, W and the link total. Assumes nothing.
use Rattle.std.specs.Prelude.{Bool, ◌&&◌, List, [], ◌∷◌, ℕ, ◌-◌, ◌/◌, ◌≤◌, max, T, leb, length}
use Rattle.rules.specs.declared.Settings.{Settings}
use Rattle.rules.specs.Lists.{keep, count, sum_of, largest_to}
use Rattle.rules.specs.Places.{places}
use Rattle.rules.specs.Matches.{Cell, is_match, matches}
use Rattle.rules.specs.Chains.{left_extension, Heaviest, Start}
use Rattle.rules.specs.Records.{Record, records}

-- "Work room holds one record in each eight numbers, list room one entry in each five; a remainder holds nothing." CR 1: "List room now counts six
-- numbers an entry."
unfoldable pub work_holds : List ℕ → ℕ
work_holds room = length room / 8

unfoldable pub list_holds : List ℕ → ℕ
list_holds room = length room / 6

-- "A record is row, column, weight, start row, start column and three zeros."
unfoldable pub record_numbers : Record → List ℕ
record_numbers x =
    x.cell.row ∷ x.cell.column ∷ x.weight ∷ x.start.row ∷ x.start.column ∷ 0 ∷ 0 ∷ 0 ∷ []

-- "in rows max(1, i - b) to i": the run of row i
unfoldable pub in_run : ℕ → ℕ → Cell → Bool
in_run b i x = leb (max 1 (i - b)) x.row && leb x.row i

-- what the stopped sweep leaves: "the records of all matches in rows max(1, r - b) to r"
unfoldable pub held : Settings → List ℕ → List ℕ → ℕ → List Record
unfolding keep in_run records
held c first second r = keep (λ x. in_run c.b r x.cell) (records c first second)

-- the same in words: the match y is held after row r, with the start p and the weight w
pub record Held (c : Settings) (first second : List ℕ) (r : ℕ) (y p : Cell) (w : ℕ) : Type 0 where
  pub is_a_match : T (is_match c first second y)
  pub from : max 1 (r - c.b) ≤ y.row
  pub to : y.row ≤ r
  pub weight : Heaviest c.b (is_match c first second) y w
  pub start : Start c.b (is_match c first second) y p

-- ---- the tallies, from matches alone

-- of any matches in so many rows: "the largest number of matches in rows max(1, i - b) to i, over all rows; 0 if there are no rows"
unfoldable pub largest_run : ℕ → List Cell → ℕ → ℕ
unfolding largest_to count in_run
largest_run b all rows = largest_to (λ i. count (in_run b i) all) rows

-- of any matches: "number of pairs (left extension, match)"
unfoldable pub pairs : ℕ → List Cell → ℕ
unfolding sum_of count left_extension
pairs b all = sum_of (λ y. count (λ x. left_extension b x y) all) all

-- M
unfoldable pub match_total : Settings → List ℕ → List ℕ → ℕ
unfolding matches
match_total c first second = length (matches c first second)

-- W
unfoldable pub work_need : Settings → List ℕ → List ℕ → ℕ
unfolding largest_run matches places
work_need c first second = largest_run c.b (matches c first second) (places c.k first)

-- the link total
unfoldable pub link_total : Settings → List ℕ → List ℕ → ℕ
unfolding pairs matches
link_total c first second = pairs c.b (matches c first second)
