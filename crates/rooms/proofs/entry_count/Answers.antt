-- `rooms::entry_count` meets its contract: it is the definition. Assumes nothing.
use mathlib.Core.Path.{refl}
use Rattle.rules.specs.Rooms.{list_holds}
use Rattle.rooms.proofs.entry_count.Goals as goal

pub returns : goal.returns
unfolding list_holds
returns c =
    refl
