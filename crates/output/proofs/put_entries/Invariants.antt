-- `output::put_entries` meets its contract: the entries so far stand as lines, and behind them what was there. Assumes nothing.
use Rattle.output.proofs.Writing.{Writing}
use Rattle.output.proofs.put_entries.Given as goal

abbrev pub invariant-loop-entry : goal.invariant-loop-entry
invariant-loop-entry l = Writing l.list l.initial.output l.output l.count l.at l.entry-index
