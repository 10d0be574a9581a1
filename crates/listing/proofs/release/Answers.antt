use native.Mathlib.Omega.{arith}
use Rattle.listing.proofs.Releasing.{releasing_next, released_here, released_all}
use Rattle.listing.proofs.release.Goals as goal

pub returns-then-i-x : goal.returns-then-i-x
returns-then-i-x c =
    released_here c.requires c.loop-t.invariant c.loop-t-test.true c.slot.ensures.slot c.record_at-x.ensures (omega arith)

pub loop-t-preserved : goal.loop-t-preserved
loop-t-preserved c =
    releasing_next c.requires c.loop-t.invariant c.loop-t-test.true c.slot.ensures.slot c.record_at-x.ensures (omega arith) c.list_record-listed.ensures.value
    c.list_record-listed.ensures.list_after

pub returns : goal.returns
returns c = released_all c.requires c.loop-t.invariant (omega arith)
