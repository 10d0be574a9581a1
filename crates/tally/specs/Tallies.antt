-- M and W of the matches that walks come to. Assumes nothing.
use Rattle.std.specs.Prelude.{List, ℕ, length}
use Rattle.rules.specs.declared.Cell.{Cell}
use Rattle.rules.specs.Rooms.{largest_run}
use Rattle.tally.specs.declared.Counts.{Counts}

-- of any matches in so many rows
unfoldable pub counts_of : ℕ → List Cell → ℕ → Counts
unfolding largest_run
counts_of b cells rows = record { matches = length cells; widest = largest_run b cells rows }
