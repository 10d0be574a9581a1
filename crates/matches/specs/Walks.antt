-- What a sweep needs to know of firsts and nexts, for any test of which cells are matches: from column to column they lead to the next
-- match of the row. And the matches that any walks come to. Assumes nothing.
use Rattle.std.specs.Prelude.{◌≡◌, Bool, true, false, List, [], ◌∷◌, ℕ, zero, suc, ◌-◌, ◌<◌, ◌≤◌, eqb, length, get_or, Option, MatchOption}
use Rattle.rules.specs.declared.Cell.{Cell}
use Rattle.rules.specs.Lists.{any_of}
use Rattle.rules.specs.Matches.{cell, matches_to}
use Rattle.rules.specs.Rooms.{largest_run}

-- p is the first match of row i after column j, of so many columns, and 0 where there is none
pub data NextMatch (hit : Cell → Bool) (i columns j p : ℕ) : Type 0 where
  none_left : p ≡ 0 → ((q : ℕ) → j < q → q ≤ columns → hit (cell i q) ≡ false) → NextMatch hit i columns j p
  next_is : j < p → p ≤ columns → hit (cell i p) ≡ true → ((q : ℕ) → j < q → q < p → hit (cell i q) ≡ false) → NextMatch hit i columns j p

-- start is the first match of row i, and behind each of its matches nexts has the next one; index j is of column j + 1
pub record RowWalk (hit : Cell → Bool) (i columns start : ℕ) (nexts : List ℕ) : Type 0 where
  pub begins : NextMatch hit i columns 0 start
  pub follows : (j : ℕ) → hit (cell i (suc j)) ≡ true → NextMatch hit i columns (suc j) (get_or nexts j 0)

-- the columns from x on, by nexts, at most `fuel` of them
unfoldable pub walk : List ℕ → ℕ → ℕ → List ℕ
walk nexts zero x = []
walk nexts (suc fuel) zero = []
walk nexts (suc fuel) (suc j) = suc j ∷ walk nexts fuel (get_or nexts j 0)

-- all columns of a row that begins in column x
unfoldable pub row_from : List ℕ → ℕ → List ℕ
unfolding walk
row_from nexts x = walk nexts (length nexts) x

-- a step of a row in column x: it ends at 0 and stays there, and else gives x, behind which comes column x'
abbrev pub Steps : List ℕ → ℕ → Option ℕ → ℕ → Type 0
Steps nexts x r x' = MatchOption r ((x ≡ 0) × (x' ≡ 0)) (λ j. (j ≡ x) × (1 ≤ x) × (x' ≡ get_or nexts (x - 1) 0))

-- column j is one of them
unfoldable pub on_walk : List ℕ → ℕ → ℕ → Bool
unfolding row_from any_of
on_walk nexts x j = any_of (eqb j) (row_from nexts x)

-- column j is on the walk of row i: the matches that any walks come to
unfoldable pub walks_to : List ℕ → List ℕ → Cell → Bool
unfolding on_walk
walks_to firsts nexts y = on_walk nexts (get_or firsts (y.row - 1) 0) y.column

-- those of the first rows, by row, then column
unfoldable pub walked_to : List ℕ → List ℕ → ℕ → List Cell
unfolding matches_to walks_to
walked_to firsts nexts rows = matches_to (walks_to firsts nexts) (length nexts) rows

-- and those of all rows
unfoldable pub walked : List ℕ → List ℕ → List Cell
unfolding walked_to
walked firsts nexts = walked_to firsts nexts (length firsts)

-- their W
unfoldable pub walked_need : ℕ → List ℕ → List ℕ → ℕ
unfolding largest_run walked
walked_need b firsts nexts = largest_run b (walked firsts nexts) (length firsts)

-- ---- what safety needs

-- each step of a walk stays inside the columns, and rises until it ends
pub record StepsSafe (nexts : List ℕ) : Type 0 where
  pub inside : (q : ℕ) → get_or nexts q 0 ≤ length nexts
  pub rising : (q : ℕ) → 1 ≤ get_or nexts q 0 → suc q < get_or nexts q 0

-- a walk stays inside the columns, and rises until it ends
pub record NextsSafe (nexts : List ℕ) : Type 0 where
  pub few_columns : length nexts ≤ 16384
  pub inside : (q : ℕ) → get_or nexts q 0 ≤ length nexts
  pub rising : (q : ℕ) → 1 ≤ get_or nexts q 0 → suc q < get_or nexts q 0

-- and so from every row's first column
pub record WalkSafe (firsts nexts : List ℕ) : Type 0 where
  pub few_rows : length firsts ≤ 16384
  pub starts : (p : ℕ) → get_or firsts p 0 ≤ length nexts
  pub nexts_safe : NextsSafe nexts

-- ---- a test that tells the matches the walks come to

-- in every row
pub record Described (hit : Cell → Bool) (columns : ℕ) (firsts nexts : List ℕ) : Type 0 where
  pub rows : (p : ℕ) → p < length firsts → RowWalk hit (suc p) columns (get_or firsts p 0) nexts
  pub narrow : columns ≤ 16384
