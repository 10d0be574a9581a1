-- Each turn writes the last code that is left, and touches no other number. Assumes nothing.
use lib.ListN.{length}
use Rattle.turning.proofs.Codes.{Backwards}
use Rattle.turning.proofs.reverse_codes.Given as goal

abbrev pub invariant-loop-i : goal.invariant-loop-i
invariant-loop-i l = Backwards l.codes l.initial.out l.out (length l.yielded)
