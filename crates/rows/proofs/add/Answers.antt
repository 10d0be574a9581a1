-- `rows::add` meets its contract: the search finds the predecessor by the rule, and one more record keeps the state. Assumes nothing.
use mathlib.Core.Path.{subst⁻¹}
use Rattle.std.proofs.Common.{ℕ, ◌+◌, ◌∙◌, List, set, ap₂}
use Rattle.records.specs.Layout.{put_record}
use Rattle.predecessors.specs.Found.{near_of, column_of}
use Rattle.rows.specs.Machine.{Added}
use Rattle.rows.proofs.Adding.{add_more}
use Rattle.rows.proofs.add.Goals as goal

pub returns : goal.returns
returns c =
    let held = c.args.held in
    subst⁻¹
    (λ (l : List ℕ). Added held.b c.args.i c.args.j c.args.room.now c.args.latest.now held.ring held.tail held.head (near_of c.args.near) (column_of c.args.near) held.from l
    (set c.args.latest.now c.args.j (held.head + 1)))
    (c.put_record.ensures ∙ ap₂ (put_record c.args.room.now) c.slot.ensures.slot c.next_record-next.ensures)
    (add_more held.b c.args.i c.args.j c.args.room.now c.args.latest.now held.ring held.tail held.head _ _ held.from _ c.requires c.search-p.ensures)
