-- `rooms::record_count` meets its contract: it is the definition. Assumes nothing.
use mathlib.Core.Path.{refl}
use Rattle.rules.specs.Rooms.{work_holds}
use Rattle.rooms.proofs.record_count.Goals as goal

pub returns : goal.returns
unfolding work_holds
returns c =
    refl
