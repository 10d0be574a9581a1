-- Running numbers: where the record with a number lies, and a record by its number. Assumes nothing.
use Rattle.std.specs.Prelude.{cond, List, ℕ, ◌+◌, ◌-◌, ◌%◌, ◌^◌, ◌≤◌, ◌<◌, eqb, get_or}
use Rattle.std.proofs.Math.Option.{Option, none, some}
use Rattle.rules.specs.declared.Record.{Record}
use Rattle.rules.specs.Matches.{cell}
use Rattle.records.specs.Layout.{record_in}
use Rattle.predecessors.specs.declared.ring.Ring.{Ring}

-- a ring has a slot at least, begins in one of its slots, and is small enough that no sum of slots wraps
pub record RingFits (ring : Ring) : Type 0 where
  pub some_room : 1 ≤ ring.size
  pub begins : ring.origin < ring.size
  pub small : ring.size < 2 ^ 32

-- the slot of running number g
unfoldable pub slot_of : Ring → ℕ → ℕ
slot_of ring g = (g + ring.origin) % ring.size

-- a record by one more than its number, 0 for none
unfoldable pub numbered : List ℕ → Ring → ℕ → Option Record
unfolding slot_of
numbered room ring n = cond (eqb n 0) none (some (record_in room (slot_of ring (n - 1))))

-- record number g of a list; past the end one that is no match's
abbrev pub nothing : Record
nothing = record { cell = cell 0 0; weight = 0; start = cell 0 0 }

abbrev pub nth : List Record → ℕ → Record
nth all g = get_or all g nothing
