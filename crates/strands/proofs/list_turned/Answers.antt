-- `strands::list_turned` meets its contract: where the room holds the entries they are turned back, and else there is nothing to say of them. Assumes nothing.
use Rattle.std.proofs.Common.{arith}
use Rattle.rules.specs.Rooms.{list_holds}
use Rattle.strands.proofs.Entering.{lists_short, lists_turned}
use Rattle.strands.proofs.list_turned.Goals as goal

pub returns-then-count-entry_count : goal.returns-then-count-entry_count
returns-then-count-entry_count c =
    lists_turned c.args.letters c.list_strand-count.ensures (omega (arith, c.entry_count.ensures, c.if-count-entry_count.true))
    c.turn_entries.ensures

pub returns-else-count-entry_count : goal.returns-else-count-entry_count
returns-else-count-entry_count c =
    lists_short c.args.letters c.list_strand-count.ensures (omega (arith, c.entry_count.ensures, c.if-count-entry_count.false))

pub turn_entries-requires : goal.turn_entries-requires
unfolding list_holds
turn_entries-requires c =
    record { count_in_bounds = omega (arith, c.entry_count.ensures, c.if-count-entry_count.true); letters_bound = c.requires.letters_bound }
