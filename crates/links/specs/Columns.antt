-- How many matches each column has, of those seen and not yet released: the counts that the link total is summed from. Assumes nothing.
use Rattle.std.specs.Prelude.{◌≡◌, ℕ, suc, ◌+◌, ◌-◌, ◌<◌, ◌≤◌, Bool, List, length, ◌==◌, slice_index}
use Rattle.rules.specs.declared.Cell.{Cell}
use Rattle.rules.specs.Lists.{count}
use Rattle.rules.specs.Matches.{matches_to}
use Rattle.rules.specs.Rooms.{pairs}
use Rattle.matches.specs.Walks.{RowWalk, Described}

unfoldable pub in_column : ℕ → Cell → Bool
in_column q x = x.column == q

-- a count for each column: with the matches released it is how many of all seen the column has
pub record ColumnCounts (released seen : List Cell) (counts : List ℕ) : Type 0 where
  pub places : length counts ≡ 16385
  pub each : (q : ℕ) → slice_index counts q + count (in_column q) released ≡ count (in_column q) seen

-- row m + 1 of those seen, rows 1 to i, is released after rows 1 to m
pub record RowReleased (nexts : List ℕ) (start : ℕ) (old new : List ℕ) : Type 0 where
  pub exact : (hit : Cell → Bool) (m i columns : ℕ) → RowWalk hit (suc m) columns start nexts → m < i
      → ColumnCounts (matches_to hit columns m) (matches_to hit columns i) old
      → ColumnCounts (matches_to hit columns (suc m)) (matches_to hit columns i) new

-- before row p + 1 row p - b is released, where there is one
pub record Released (firsts nexts : List ℕ) (b p : ℕ) (old new : List ℕ) : Type 0 where
  pub exact : (hit : Cell → Bool) (columns : ℕ) → Described hit columns firsts nexts
      → ColumnCounts (matches_to hit columns (p - b - 1)) (matches_to hit columns p) old
      → ColumnCounts (matches_to hit columns (p - b)) (matches_to hit columns p) new

-- row i + 1 is counted after rows 1 to i, and its links go to the total
pub record RowAdded (nexts : List ℕ) (start b : ℕ) (old new : List ℕ) (links total : ℕ) : Type 0 where
  pub exact : (hit : Cell → Bool) (i columns : ℕ) → RowWalk hit (suc i) columns start nexts → i < 16384 → columns ≤ 16384
      → ColumnCounts (matches_to hit columns (i - b)) (matches_to hit columns i) old → links ≡ pairs b (matches_to hit columns i)
      → ColumnCounts (matches_to hit columns (i - b)) (matches_to hit columns (suc i)) new × (total ≡ pairs b (matches_to hit columns (suc i)))
