-- What is stored and what is still to be stored make the whole run. Assumes nothing.
use Rattle.lines.proofs.Storing.{Putting}
use Rattle.lines.proofs.put_bytes.Given as goal

abbrev pub invariant-loop-i : goal.invariant-loop-i
invariant-loop-i l = Putting l.bytes l.initial.out l.out l.at l.i
