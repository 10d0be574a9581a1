-- Where a record lies in work room. Assumes nothing.
use Rattle.std.specs.Prelude.{◌≡◌, List, ℕ, ◌+◌, ◌*◌, ◌<◌, get_or}
use Rattle.std.proofs.lemmas.List.Edits.{sets}
use Rattle.rules.specs.Matches.{cell}
use Rattle.rules.specs.declared.Record.{Record}
use Rattle.rules.specs.Rooms.{record_numbers}

-- the record in a slot
unfoldable pub record_in : List ℕ → ℕ → Record
record_in room slot =
    record {
      cell = cell (get_or room (8 * slot) 0) (get_or room (8 * slot + 1) 0);
      weight = get_or room (8 * slot + 2) 0;
      start = cell (get_or room (8 * slot + 3) 0) (get_or room (8 * slot + 4) 0);
    }

-- all eight numbers of a slot are those of the record x
pub record Holds (room : List ℕ) (slot : ℕ) (x : Record) : Type 0 where
  pub numbers : (k : ℕ) → k < 8 → get_or room (8 * slot + k) 0 ≡ get_or (record_numbers x) k 0

-- the room with a record's numbers in a slot
unfoldable pub put_record : List ℕ → ℕ → Record → List ℕ
unfolding record_numbers
put_record room slot x = sets room (8 * slot) (record_numbers x)
