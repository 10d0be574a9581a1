-- The state of a sweep: all records so far, of which those from number tail on lie in the room, and the latest number of each column. Assumes nothing.
use Rattle.std.specs.Prelude.{◌≡◌, ℕ, ◌+◌, ◌*◌, ◌%◌, ◌^◌, ◌<◌, ◌≤◌, List, [], ◌∷◌, ◌++◌, length}
use Rattle.std.proofs.Math.Option.{Option, none, some}
use mathlib.Core.List.{Memᴰ}
use Rattle.rules.specs.declared.Cell.{Cell}
use Rattle.rules.specs.declared.Record.{Record}
use Rattle.rules.specs.Matches.{cell}
use Rattle.rules.specs.Records.{record_of}
use Rattle.predecessors.specs.declared.ring.Ring.{Ring}
use Rattle.predecessors.specs.Numbers.{RingFits, nth}
use Rattle.predecessors.specs.Index.{InRoom, Columns, Ready}

-- with the run of row i in the room: what was released lies more than b rows before it, what is kept does not, and the ring has room
pub record Machine (b i : ℕ) (all : List Record) (room latest : List ℕ) (ring : Ring) (tail : ℕ) : Type 0 where
  pub stored : InRoom all room ring tail
  pub columns : Columns all latest
  pub gone : (g : ℕ) → g < tail → g < length all → (nth all g).cell.row + b < i
  pub kept : (g : ℕ) → tail ≤ g → g < length all → i ≤ (nth all g).cell.row + b
  pub order : tail ≤ length all
  pub fits : length all ≤ tail + ring.size

-- the record of c by its predecessor's, in 32 bits
unfoldable pub next_record : Cell → Option Record → Record
next_record c none = record { cell = c; weight = 1; start = c }
next_record c (some x) = record { cell = c; weight = (x.weight + 1) % 2 ^ 32; start = x.start }

-- every weight leaves room for one more in 32 bits
abbrev pub Light : List Record → Type 0
Light all = (x : Record) → Memᴰ x all → x.weight + 1 < 2 ^ 32

-- what `add` asks to be safe
pub record AddSafe (room latest : List ℕ) (ring : Ring) (head i j : ℕ) : Type 0 where
  pub fits : RingFits ring
  pub room_for : 8 * ring.size ≤ length room
  pub inside : j < length latest
  pub narrow : length latest ≤ 16385
  pub tall : i ≤ 16384
  pub few : head + 1 < 2 ^ 32

-- and what it leaves: one more record, that of (i, j)
pub record Added (b i j : ℕ) (room latest : List ℕ) (ring : Ring) (tail head near column from : ℕ) (room' latest' : List ℕ) : Type 0 where
  pub added : (all : List Record) → Ready b i j all room latest ring tail near column from → length all ≡ head → tail ≤ head → head < tail + ring.size → Light all
      → Machine b i (all ++ (record_of b all (cell i j) ∷ [])) room' latest' ring tail
