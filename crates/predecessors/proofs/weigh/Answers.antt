-- `predecessors::weigh` meets its contract: both records are read from their slots, and the tie rule decides. Assumes nothing.
use mathlib.Core.Path.{sym, ap, ◌∙◌}
use Rattle.records.specs.Layout.{record_in}
use Rattle.predecessors.proofs.Steps.{weigh_first, weigh_new, weigh_old}
use Rattle.predecessors.proofs.weigh.Goals as goal

pub returns-then-preferred : goal.returns-then-preferred
returns-then-preferred c =
    rw c.in-Some.is (weigh_new c.args.room.now c.args.ring c.args.g c.in-Some.h c.record_at-x.result c.record_at-y.result
    (c.record_at-x.ensures ∙ ap (record_in c.args.room.now) c.slot.ensures.slot)
    (c.record_at-y.ensures ∙ ap (record_in c.args.room.now) c.slot-in-Some.ensures.slot) (sym c.preferred.ensures ∙ c.if-preferred.true))

pub returns-else-preferred : goal.returns-else-preferred
returns-else-preferred c =
    rw c.in-Some.is (weigh_old c.args.room.now c.args.ring c.args.g c.in-Some.h c.record_at-x.result c.record_at-y.result
    (c.record_at-x.ensures ∙ ap (record_in c.args.room.now) c.slot.ensures.slot)
    (c.record_at-y.ensures ∙ ap (record_in c.args.room.now) c.slot-in-Some.ensures.slot) (sym c.preferred.ensures ∙ c.if-preferred.false))

pub returns-in-None : goal.returns-in-None
returns-in-None c = rw c.in-None.is (weigh_first c.args.room.now c.args.ring c.args.g)
