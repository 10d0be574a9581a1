-- Document 01, "Places, matches and chains": closed matches (as CR 2 has them), spans, the listing of one sweep and its entries. Assumes nothing.
use Rattle.std.specs.Prelude.{◌≡◌, Bool, ◌&&◌, not, ℕ, ◌+◌, ◌-◌, ◌≤◌, ◌<◌, T, leb}
use mathlib.Core.List.{List, [], ◌∷◌, Memᴰ}
use Rattle.rules.specs.declared.Settings.{Settings}
use Rattle.rules.specs.Lists.{keep, any_of}
use Rattle.rules.specs.Matches.{Cell, is_match, matches}
use Rattle.rules.specs.Chains.{left_extension, Heaviest, Start, Closed}
use Rattle.rules.specs.Records.{Record, records}

-- CR 2: "a match is closed when it is a left extension of no match"
unfoldable pub closed : ℕ → List Cell → Cell → Bool
unfolding any_of left_extension
closed b all c = not (any_of (left_extension b c) all)

-- "Spans of a closed match (i, j) started at (p, q): i + k - p bases and j + k - q bases."
unfoldable pub first_span : ℕ → Cell → Cell → ℕ
first_span k start end = end.row + k - start.row

unfoldable pub second_span : ℕ → Cell → Cell → ℕ
second_span k start end = end.column + k - start.column

-- "two spans are both at least m"
unfoldable pub long_enough : Settings → Record → Bool
unfolding first_span second_span
long_enough c x = leb c.m (first_span c.k x.start x.cell) && leb c.m (second_span c.k x.start x.cell)

-- "The listing holds every closed match whose two spans are both at least m, by end row, then end column."
unfoldable pub is_listed : Settings → List Cell → Record → Bool
unfolding closed long_enough
is_listed c all x = closed c.b all x.cell && long_enough c x

unfoldable pub listing : Settings → List ℕ → List ℕ → List Record
unfolding keep is_listed matches records
listing c first second = keep (is_listed c (matches c first second)) (records c first second)

-- the last letters of the match's k-mers: i + k - 1 and j + k - 1
unfoldable pub ends : ℕ → Cell → Cell
ends k x = record { row = x.row + k - 1; column = x.column + k - 1 }

-- "An entry is five 32-bit numbers: p, i + k - 1, q, j + k - 1, weight." CR 1: "Entries gain a sixth number, 0 or 1": here 0, the forward strand
unfoldable pub entry_numbers : ℕ → Record → List ℕ
unfolding ends
entry_numbers k x =
    x.start.row ∷ (ends k x.cell).row ∷ x.start.column ∷ (ends k x.cell).column ∷ x.weight ∷ 0 ∷ []

-- ---- the same in words, of which proofs/Theorems.antt shows that the listing has exactly these, each once and in order

-- the match y is listed, with the start p and the weight w
pub record Listed (c : Settings) (first second : List ℕ) (y p : Cell) (w : ℕ) : Type 0 where
  pub is_a_match : T (is_match c first second y)
  pub is_closed : Closed c.b (is_match c first second) y
  pub weight : Heaviest c.b (is_match c first second) y w
  pub start : Start c.b (is_match c first second) y p
  pub first_enough : c.m ≤ first_span c.k p y
  pub second_enough : c.m ≤ second_span c.k p y

-- "by end row, then end column. Both are compared as numbers.": x stands before y
pub record Before (x y : Cell) : Type 0 where
  pub row_le : x.row ≤ y.row
  pub column_lt : x.row ≡ y.row → x.column < y.column

-- each stands before all that follow it, so that none stands twice
abbrev pub Ordered : List Cell → Type 0
Ordered [] = Unit {0}
Ordered (x ∷ xs) = ((y : Cell) → Memᴰ y xs → Before x y) × Ordered xs
