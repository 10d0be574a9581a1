-- `walks::both` meets its contract: without a reverse strand there are no rows to walk. Assumes nothing.
use Rattle.walks.proofs.Turning.{forward_alone, both_strands}
use Rattle.walks.proofs.both.Goals as goal

pub returns-then-c-eq0 : goal.returns-then-c-eq0
returns-then-c-eq0 c =
    forward_alone c.forward.ensures c.if-c-eq0.true

pub returns : goal.returns
returns c =
    both_strands c.forward.ensures c.if-c-eq0.false c.reverse.ensures
