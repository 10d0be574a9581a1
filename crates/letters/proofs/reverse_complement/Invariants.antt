-- The letters are read from the last one back, and each complement goes behind those before it. Assumes nothing.
use lib.ListN.{length}
use Rattle.letters.proofs.Complements.{Turning}
use Rattle.letters.proofs.reverse_complement.Given as goal

abbrev pub invariant-loop-turned : goal.invariant-loop-turned
invariant-loop-turned l = Turning l.s l.initial.out l.out (length l.yielded)
