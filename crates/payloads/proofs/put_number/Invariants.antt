-- What is left of the number fills what is left of its bytes. Assumes nothing.
use Rattle.payloads.proofs.Numbers.{Filling}
use Rattle.payloads.proofs.put_number.Given as goal

abbrev pub invariant-loop-i : goal.invariant-loop-i
invariant-loop-i l = Filling l.initial.payload l.payload l.at l.width l.x l.i l.rest
