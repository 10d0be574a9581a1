-- Each byte read makes the number 256 times as large and adds itself. Assumes nothing.
use Rattle.payloads.proofs.Numbers.{Gathering}
use Rattle.payloads.proofs.number_at.Given as goal

abbrev pub invariant-loop-i : goal.invariant-loop-i
invariant-loop-i l = Gathering l.bytes l.at l.width l.x l.i
