-- Both places are read before either is stored. Assumes nothing.
use Rattle.entries.specs.Layout.{turn_entry}
use Rattle.entries.proofs.turn_entry.Goals as goal

pub returns : goal.returns
unfolding turn_entry
returns c =
    rw (← c.turned_place-start.ensures, ← c.turned_place-end.ensures)
