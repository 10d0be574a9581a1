-- `jobs::finish` meets its contract: each return is a line of the table. Assumes nothing.
use Rattle.std.proofs.Common.{refl, arith}
use Rattle.rules.specs.Rooms.{list_holds}
use Rattle.jobs.proofs.Outcomes.{finish_8, finish_0}
use Rattle.jobs.proofs.finish.Goals as goal

pub returns-then-entry_count-listed : goal.returns-then-entry_count-listed
returns-then-entry_count-listed c =
    finish_8 c.args.listed c.args.counts _ _ _ (omega (arith, c.entry_count.ensures, c.if-entry_count-listed.true)) refl c.zero_all.ensures c.zero_all-then-entry_count-listed.ensures

pub zero_after_entries-requires : goal.zero_after_entries-requires
unfolding list_holds
zero_after_entries-requires c =
    omega (arith, c.entry_count.ensures, c.if-entry_count-listed.false)

pub returns : goal.returns
returns c =
    finish_0 c.args.listed c.args.counts _ _ _ (omega (arith, c.entry_count.ensures, c.if-entry_count-listed.false)) c.link_strands-links.ensures refl c.zero_all.ensures
    c.zero_after_entries.ensures
