-- `sweep::later_from` meets its contract: it is the definition. Assumes nothing.
use Rattle.sweep.proofs.Sweeping.{later_same, later_new}
use Rattle.sweep.proofs.later_from.Goals as goal

pub returns-then-h-head : goal.returns-then-h-head
returns-then-h-head c =
    later_same _ _ _ c.if-h-head.true

pub returns-else-h-head : goal.returns-else-h-head
returns-else-h-head c =
    later_new _ _ _ c.if-h-head.false
