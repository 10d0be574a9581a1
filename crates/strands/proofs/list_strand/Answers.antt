-- `strands::list_strand` meets its contract: without slots there is nothing to list, and else the sweep lists all. Assumes nothing.
use Rattle.strands.proofs.Entering.{lists_none, lists_swept}
use Rattle.strands.proofs.list_strand.Goals as goal

pub returns-then-slots-eq0 : goal.returns-then-slots-eq0
returns-then-slots-eq0 c =
    lists_none c.if-slots-eq0.true c.requires.nexts_bound

pub returns : goal.returns
returns c =
    lists_swept c.requires.walked c.list_all.ensures
