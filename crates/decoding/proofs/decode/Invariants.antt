-- What is stored and summed, and what is ahead, make all of the line's bytes. Assumes nothing.
use Rattle.decoding.proofs.Decoding.{Decoding}
use Rattle.decoding.proofs.decode.Given as goal

abbrev pub invariant-loop-i : goal.invariant-loop-i
invariant-loop-i l = Decoding l.line l.initial.bytes l.bytes l.i l.sum
