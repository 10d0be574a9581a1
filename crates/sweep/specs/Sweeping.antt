-- The whole sweep: what it asks, and what it leaves. Assumes nothing.
use Rattle.std.specs.Prelude.{◌≡◌, Bool, cond, not, ◌&&◌, List, [], ℕ, ◌-◌, ◌*◌, ◌≤◌, eqb, ltb, length, get_or, take}
use Rattle.rules.specs.declared.Settings.{Settings}
use Rattle.rules.specs.declared.Cell.{Cell}
use Rattle.rules.specs.declared.Record.{Record}
use Rattle.rules.specs.Lists.{keep, laid, then_zeros}
use Rattle.rules.specs.Matches.{matches_to}
use Rattle.rules.specs.Records.{records_from}
use Rattle.rules.specs.Rooms.{record_numbers, in_run, largest_run}
use Rattle.rules.proofs.Sweeps.{swept_to}
use Rattle.matches.specs.Walks.{walked, WalkSafe, Described}
use Rattle.predecessors.specs.declared.ring.Ring.{Ring}
use Rattle.predecessors.specs.Numbers.{RingFits}
use Rattle.rows.specs.Machine.{Machine}
use Rattle.listing.specs.Leaving.{ListedTo}
use Rattle.sweep.specs.declared.Swept.{Swept}

-- the number from which records are of the latest row, once a row has brought their number from head to h
unfoldable pub later_from : ℕ → ℕ → ℕ → ℕ
later_from h head from = cond (eqb h head) from head

-- when row p + 1 enters, row p - b leaves, where there is one with a match
unfoldable pub leaves_at : List ℕ → ℕ → ℕ → Bool
leaves_at firsts b p = ltb b p && not (eqb (get_or firsts (p - b - 1) 0) 0)

-- what the sweep asks to be safe
pub record SweepSafe (firsts nexts room : List ℕ) (ring : Ring) (c : Settings) : Type 0 where
  pub fits : RingFits ring
  pub room_for : 8 * ring.size ≤ length room
  pub walks : WalkSafe firsts nexts
  pub wide : length nexts ≡ 16384
  pub some_base : 1 ≤ c.k
  pub few_bases : c.k ≤ 31

-- a test of matches that firsts and nexts describe, as the matches that the walks come to are, for which the ring has room: at least W records
pub record Describes (hit : Cell → Bool) (columns : ℕ) (firsts nexts : List ℕ) (b : ℕ) (ring : Ring) : Type 0 where
  pub described : Described hit columns firsts nexts
  pub enough : largest_run b (matches_to hit columns (length firsts)) (length firsts) ≤ ring.size

-- after the last row: all records, those of its run in the room, and of those released the listed ones in the list
pub record SweepDone (firsts nexts : List ℕ) (ring : Ring) (c : Settings) (room' latest' list' : List ℕ) (r : Swept) : Type 0 where
  pub order : r.tail ≤ r.head
  pub few : r.head ≤ length firsts * 16384
  pub entries : r.listed ≤ r.tail
  pub machine : (hit : Cell → Bool) (columns : ℕ) → Describes hit columns firsts nexts c.b ring
      → Machine c.b (length firsts) (swept_to c.b hit columns (length firsts) 0) room' latest' ring r.tail
  pub counted : (hit : Cell → Bool) (columns : ℕ) → Describes hit columns firsts nexts c.b ring → length (swept_to c.b hit columns (length firsts) 0) ≡ r.head
  pub entered : (hit : Cell → Bool) (columns : ℕ) → Describes hit columns firsts nexts c.b ring
      → ListedTo c (matches_to hit columns (length firsts)) (take r.tail (swept_to c.b hit columns (length firsts) 0)) list' r.listed

-- the whole listing: so many entries, at the front of the list room where it holds them all
pub record ListsAll (firsts nexts : List ℕ) (c : Settings) (list' : List ℕ) (n : ℕ) : Type 0 where
  pub few : n ≤ length firsts * 16384
  pub entered : ListedTo c (walked firsts nexts) (records_from c.b [] (walked firsts nexts)) list' n

-- the records of the run of row r
unfoldable pub run_of : Settings → List Cell → ℕ → List Record
run_of c cells r = keep (λ x. in_run c.b r x.cell) (records_from c.b [] cells)

-- the run of the last row: so many records, from the front of the room, and zeros after them
pub record HoldsRun (firsts nexts : List ℕ) (c : Settings) (room room' : List ℕ) (n : ℕ) : Type 0 where
  pub counted : n ≡ length (run_of c (walked firsts nexts) (length firsts))
  pub held : room' ≡ then_zeros (laid record_numbers (run_of c (walked firsts nexts) (length firsts))) (length room)
