-- `listing::list_record` meets its contract: one case for each way the entry goes. Assumes nothing.
use mathlib.Core.Path.{sym, ◌∙◌}
use native.Mathlib.Omega.{arith}
use Rattle.rules.specs.Rooms.{list_holds}
use Rattle.listing.proofs.Releasing.{count_yes, count_no, room_put, room_full, room_no}
use Rattle.listing.proofs.list_record.Goals as goal
use Rattle.listing.proofs.list_record.Goals.{then-n-entry_count, else-n-entry_count}

pub put_entry-requires-clause-n_in_bounds : goal.put_entry-requires-clause-n_in_bounds
unfolding list_holds
put_entry-requires-clause-n_in_bounds c = omega (arith, c.if-n-entry_count.true, c.entry_count.ensures)

pub returns-then-not-is_listed-clause-value : goal.returns-then-not-is_listed-clause-value
returns-then-not-is_listed-clause-value c = count_no _ _ (sym c.is_listed.ensures ∙ c.if-not-is_listed.true)

pub returns-then-not-is_listed-clause-list_after : goal.returns-then-not-is_listed-clause-list_after
returns-then-not-is_listed-clause-list_after c = room_no _ _ _ _ _ (sym c.is_listed.ensures ∙ c.if-not-is_listed.true)

pub returns-clause-value : goal.returns-clause-value
returns-clause-value c = count_yes _ _ (sym c.is_listed.ensures ∙ c.if-not-is_listed.false)

pub returns-clause-list_after : goal.returns-clause-list_after
returns-clause-list_after c =
    let pass = sym c.is_listed.ensures ∙ c.if-not-is_listed.false in
    elim c.if-n-entry_count.branch [
      | then-n-entry_count w ↦ rw w.list-is (room_put _ _ _ _ _ pass (omega (arith, w.if-n-entry_count.true, c.entry_count.ensures)) w.put_entry.ensures)
      | else-n-entry_count w ↦ rw w.list-is (room_full _ _ _ _ _ pass (omega (arith, w.if-n-entry_count.false, c.entry_count.ensures)))
    ]
