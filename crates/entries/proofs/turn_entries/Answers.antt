-- One more entry is turned back each turn. Assumes nothing.
use Rattle.std.proofs.Common.{List, ℕ, sym, refl, ap, ◌∙◌, add-one}
use Rattle.entries.specs.Layout.{turn_entry, turn_entries}
use Rattle.entries.proofs.turn_entries.Goals as goal

pub loop-n-init : goal.loop-n-init
unfolding turn_entries
loop-n-init c = refl

pub loop-n-preserved : goal.loop-n-preserved
unfolding turn_entries
loop-n-preserved c =
    c.turn_entry.ensures
    ∙ ap (λ (l : List ℕ). turn_entry c.args.letters l c.loop-n.n) c.loop-n.invariant
    ∙ ap (turn_entries c.args.letters c.args.list.now) (sym (add-one c.loop-n.n))
