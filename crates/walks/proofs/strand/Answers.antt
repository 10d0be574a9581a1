-- `walks::strand` meets its contract: an accepted strand is 0 or 1. Assumes nothing.
use Rattle.rules.specs.Letters.{as_read}
use Rattle.walks.proofs.Turning.{forward_strand}
use Rattle.walks.proofs.strand.Goals as goal

pub returns-then-c-eq0 : goal.returns-then-c-eq0
returns-then-c-eq0 c =
    forward_strand (as_read c.args.c.mask c.args.second.now) c.if-c-eq0.true c.forward.ensures
