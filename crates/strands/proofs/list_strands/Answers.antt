-- `strands::list_strands` meets its contract: the reverse strand is listed in what the forward strand leaves of the room. Assumes nothing.
use Rattle.strands.proofs.Entering.{lists_both}
use Rattle.strands.proofs.list_strands.Goals as goal

pub returns : goal.returns
returns c =
    lists_both _ _ _ _ c.entries_end-at.ensures c.list_turned-reverse.auto.list c.list_strand-forward.ensures c.list_turned-reverse.ensures
