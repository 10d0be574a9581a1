-- Where k letters have been seen, the last k of the run of bases that ends there are the letters of the place that is written. Assumes nothing.
use Rattle.rules.specs.Letters.{as_read}
use Rattle.kmers.proofs.Rolling.{Rolled}
use Rattle.kmers.proofs.Writing.{Written}
use Rattle.kmers.proofs.fill_codes.Given as goal

abbrev pub invariant-loop-n : goal.invariant-loop-n
invariant-loop-n l = Rolled (as_read l.mask l.s) l.k l.code l.run l.n × Written (as_read l.mask l.s) l.k l.initial.out l.out l.n
