-- `rows::next_record` meets its contract: the new record is that of its predecessor plus 1, read from its slot. Assumes nothing.
use Rattle.std.proofs.Common.{ap, ◌∙◌}
use Rattle.records.specs.Layout.{record_in}
use Rattle.rows.proofs.Adding.{next_none, next_some}
use Rattle.rows.proofs.next_record.Goals as goal

pub returns-in-Some : goal.returns-in-Some
returns-in-Some c =
    rw c.in-Some.is (next_some c.args.room.now c.args.ring c.in-Some.g c.args.here c.record_at-x.result
    (c.record_at-x.ensures ∙ ap (record_in c.args.room.now) c.slot.ensures.slot))

pub returns-in-None : goal.returns-in-None
returns-in-None c = rw c.in-None.is (next_none c.args.room.now c.args.ring c.args.here)
