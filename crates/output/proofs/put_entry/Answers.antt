-- `output::put_entry` meets its contract: the sixth number tells the kind of the line. Assumes nothing.
use Rattle.output.proofs.Writing.{forward_line, reverse_line_lem, as_entry}
use Rattle.output.proofs.put_entry.Goals as goal

pub returns-then-numbers-eq0 : goal.returns-then-numbers-eq0
returns-then-numbers-eq0 c =
    let both = as_entry _ c.entry_of-entry.ensures _ (forward_line _ c.entry_of-entry.ensures c.if-numbers-eq0.true) c.write_entry.ensures.value c.write_entry.ensures.out_after in
    record { value = both.0; output_after = both.1 }

pub returns-else-numbers-eq0 : goal.returns-else-numbers-eq0
returns-else-numbers-eq0 c =
    let both = as_entry _ c.entry_of-entry.ensures _ (reverse_line_lem _ c.entry_of-entry.ensures c.if-numbers-eq0.false) c.write_reverse_entry.ensures.value
    c.write_reverse_entry.ensures.out_after in
    record { value = both.0; output_after = both.1 }
