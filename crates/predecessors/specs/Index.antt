-- What a search for a predecessor relies on: all records so far, those still in the room, and of each column the latest. Assumes nothing.
use Rattle.std.specs.Prelude.{◌≡◌, Bool, ℕ, ◌+◌, ◌-◌, ◌*◌, ◌≤◌, ◌<◌, length, get_or}
use Rattle.std.proofs.Math.Option.{none}
use mathlib.Core.List.{List, Memᴰ}
use Rattle.rules.specs.declared.Cell.{Cell}
use Rattle.rules.specs.declared.Record.{Record}
use Rattle.rules.specs.Matches.{cell}
use Rattle.rules.specs.Chains.{Heaviest}
use Rattle.rules.specs.Records.{pick}
use Rattle.rules.specs.Listing.{Before}
use Rattle.records.specs.Layout.{Holds}
use Rattle.predecessors.specs.declared.ring.Ring.{Ring}
use Rattle.predecessors.specs.Numbers.{RingFits, slot_of, numbered, nth}

-- a cell has one record
abbrev pub Single : List Record → Type 0
Single ws = (x y : Record) → Memᴰ x ws → Memᴰ y ws → x.cell ≡ y.cell → x ≡ y

-- the records of all matches before c, each with the heaviest weight by these matches: no row is later, and in its own row only columns before it
pub record Known (b : ℕ) (c : Cell) (ws : List Record) : Type 0 where
  pub hit : Cell → Bool
  pub heaviest : (x : Record) → Memᴰ x ws → Heaviest b hit x.cell x.weight
  pub single : Single ws
  pub rows : (x : Record) → Memᴰ x ws → x.cell.row ≤ c.row
  pub from_one : (x : Record) → Memᴰ x ws → 1 ≤ x.cell.column
  pub own : (x : Record) → Memᴰ x ws → x.cell.row ≡ c.row → x.cell.column < c.column

-- numbers go by row, then column
abbrev pub Sorted : List Record → Type 0
Sorted all = (g h : ℕ) → g < h → h < length all → Before (nth all g).cell (nth all h).cell

-- the records from number tail on lie in the room
abbrev pub InRoom : List Record → List ℕ → Ring → ℕ → Type 0
InRoom all room ring tail = (g : ℕ) → tail ≤ g → g < length all → Holds room (slot_of ring g) (nth all g)

-- each column's entry is one more than the number of its last record; 0 where it has none
pub record Columns (all : List Record) (latest : List ℕ) : Type 0 where
  pub within : (q : ℕ) → get_or latest q 0 ≤ length all
  pub column : (q : ℕ) → 1 ≤ get_or latest q 0 → (nth all (get_or latest q 0 - 1)).cell.column ≡ q
  pub newest : (g : ℕ) → g < length all → g < get_or latest (nth all g).cell.column 0

-- the nearest match of row i on the left: one more than its number, and its column; 0 and 0 where there is none
pub data Nearest (i : ℕ) (all : List Record) (near column : ℕ) : Type 0 where
  no_near : near ≡ 0 → column ≡ 0 → ((g : ℕ) → g < length all → (nth all g).cell.row ≡ i → ⊥) → Nearest i all near column
  has_near : 1 ≤ near → near ≤ length all → (nth all (near - 1)).cell.row ≡ i → (nth all (near - 1)).cell.column ≡ column
      → ((g : ℕ) → g < length all → (nth all g).cell.row ≡ i → (nth all g).cell.column ≤ column) → Nearest i all near column

-- what a search for the predecessor of (i, j) relies on: all records so far, of which those from number tail on are held
pub record Ready (b i j : ℕ) (all : List Record) (room latest : List ℕ) (ring : Ring) (tail near column from : ℕ) : Type 0 where
  pub known : Known b (cell i j) all
  pub sorted : Sorted all
  pub stored : InRoom all room ring tail
  pub columns : Columns all latest
  pub gone : (g : ℕ) → g < tail → g < length all → (nth all g).cell.row + b < i
  pub kept : (g : ℕ) → tail ≤ g → g < length all → i ≤ (nth all g).cell.row + b
  pub nearest : Nearest i all near column
  -- records from number `from` on are of the latest row before i, or of i
  pub late : (g h : ℕ) → from ≤ g → g < length all → h < length all → (nth all h).cell.row < i → (nth all h).cell.row ≤ (nth all g).cell.row

-- what it asks to be safe
pub record Safe (room latest : List ℕ) (ring : Ring) (j : ℕ) : Type 0 where
  pub fits : RingFits ring
  pub room_for : 8 * ring.size ≤ length room
  pub inside : j < length latest

-- what it returns: of the records so far, whichever they are, the predecessor by the rule
pub record Found (room latest : List ℕ) (ring : Ring) (tail near column from b j r : ℕ) : Type 0 where
  pub picked : (i : ℕ) (all : List Record) → Ready b i j all room latest ring tail near column from → numbered room ring r ≡ pick b (cell i j) none all
