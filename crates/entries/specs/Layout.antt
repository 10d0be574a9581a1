-- Where an entry lies in list room, and what it becomes when it is turned back. Assumes nothing.
use Rattle.std.specs.Prelude.{ℕ, zero, suc, ◌+◌, ◌-◌, ◌*◌, ◌%◌, ◌^◌, List, [], ◌∷◌, slice_index, slice_set}
use Rattle.std.proofs.lemmas.List.Edits.{sets}
use Rattle.rules.specs.declared.Record.{Record}
use Rattle.rules.specs.Strands.{turned}

-- an entry's numbers in 32 bits
unfoldable pub entry_in32 : ℕ → Record → List ℕ
entry_in32 k x =
    x.start.row
    ∷ ((x.cell.row + (k - 1)) % 2 ^ 32)
    ∷ x.start.column
    ∷ ((x.cell.column + (k - 1)) % 2 ^ 32)
    ∷ x.weight
    ∷ 0
    ∷ []

-- the room with an entry's numbers behind n entries
unfoldable pub put_entry : List ℕ → ℕ → ℕ → Record → List ℕ
unfolding entry_in32
put_entry list n k x = sets list (6 * n) (entry_in32 k x)

-- the entry behind n others turned back: its places of the second sequence counted from the other end, start and end exchanged, and the strand 1
unfoldable pub turn_entry : ℕ → List ℕ → ℕ → List ℕ
unfolding turned
turn_entry letters list n =
    slice_set (slice_set (slice_set list (6 * n + 2) (turned letters (slice_index list (6 * n + 3)))) (6 * n + 3) (turned letters (slice_index list (6 * n + 2)))) (6 * n + 5) 1

-- the first n entries turned back
unfoldable pub turn_entries : ℕ → List ℕ → ℕ → List ℕ
unfolding turn_entry
turn_entries letters list zero = list
turn_entries letters list (suc n) = turn_entry letters (turn_entries letters list n) n
