-- A row of matches, stored one after the other: what it asks, and what it leaves for any test of matches that the row's columns describe. Assumes nothing.
use Rattle.std.specs.Prelude.{◌≡◌, ℕ, suc, ◌+◌, ◌*◌, ◌^◌, ◌<◌, ◌≤◌, Bool, List, length, slice_index}
use Rattle.rules.specs.declared.Cell.{Cell}
use Rattle.rules.specs.declared.Record.{Record}
use Rattle.rules.proofs.Sweeps.{swept_to}
use Rattle.matches.specs.Walks.{NextMatch, RowWalk}
use Rattle.predecessors.specs.declared.ring.Ring.{Ring}
use Rattle.predecessors.specs.Numbers.{RingFits, nth}
use Rattle.predecessors.specs.Index.{Nearest}
use Rattle.rows.specs.Machine.{Machine}

-- records from number `from` on are of the latest row before i, or of i
abbrev pub Late : ℕ → List Record → ℕ → Type 0
Late i all from = (g h : ℕ) → from ≤ g → g < length all → h < length all → (nth all h).cell.row < i → (nth all h).cell.row ≤ (nth all g).cell.row

-- the state in row k + 1 after a column, of which j is the next match, 0 for none
pub record RowState (b : ℕ) (hit : Cell → Bool) (columns k : ℕ) (room latest : List ℕ) (ring : Ring) (tail head near column from j : ℕ) : Type 0 where
  pub machine : Machine b (suc k) (swept_to b hit columns k column) room latest ring tail
  pub counted : length (swept_to b hit columns k column) ≡ head
  pub nearest : Nearest (suc k) (swept_to b hit columns k column) near column
  pub late : Late (suc k) (swept_to b hit columns k column) from
  pub leads : NextMatch hit (suc k) columns column j
  pub inside : column ≤ columns

-- what is fixed over a row
pub record RowFits (b : ℕ) (hit : Cell → Bool) (columns k : ℕ) (ring : Ring) (tail : ℕ) : Type 0 where
  pub room : length (swept_to b hit columns k columns) ≤ tail + ring.size
  pub tall : k < 16384
  pub narrow : columns ≤ 16384

-- what storing a row asks to be safe
pub record RowSafe (room latest nexts : List ℕ) (ring : Ring) (head start i : ℕ) : Type 0 where
  pub fits : RingFits ring
  pub room_for : 8 * ring.size ≤ length room
  pub narrow : length latest ≤ 16385
  pub known : length latest ≤ suc (length nexts)
  pub tall : i ≤ 16384
  pub few : head + 16385 < 2 ^ 32
  pub begin : start < length latest
  pub inside : (q : ℕ) → slice_index nexts q < length latest
  pub rising : (q : ℕ) → 1 ≤ slice_index nexts q → suc q < slice_index nexts q

-- what it leaves: the records of the row too, of which there are then r in all
pub record RowDone (b i : ℕ) (room latest nexts : List ℕ) (ring : Ring) (tail head from start : ℕ) (room' latest' : List ℕ) (r : ℕ) : Type 0 where
  pub few : (head ≤ r) × (r ≤ head + 16384)
  pub done : (hit : Cell → Bool) (columns k : ℕ) → i ≡ suc k → RowWalk hit (suc k) columns start nexts → RowFits b hit columns k ring tail
      → RowState b hit columns k room latest ring tail head 0 0 from start
      → Machine b (suc k) (swept_to b hit columns k columns) room' latest' ring tail × (length (swept_to b hit columns k columns) ≡ r)
