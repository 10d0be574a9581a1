use Rattle.std.proofs.Common.{arith}
use Rattle.payloads.proofs.Numbers.{filling_next, filling_end}
use Rattle.payloads.proofs.put_number.Goals as goal

pub loop-i-preserved : goal.loop-i-preserved
loop-i-preserved c =
    filling_next _ _ _ _ _ _ _ _ (omega arith) c.low_byte.ensures c.loop-i.invariant

pub returns : goal.returns
returns c =
    filling_end _ _ _ _ _ _ _ (omega arith) c.loop-i.invariant
