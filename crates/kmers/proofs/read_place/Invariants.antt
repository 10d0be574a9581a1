-- As long as all letters were bases, those ahead have the answer; the first that is none breaks the k-mer. Assumes nothing.
use Rattle.rules.specs.Letters.{as_read}
use Rattle.kmers.proofs.Reading.{Reading}
use Rattle.kmers.proofs.read_place.Given as goal

abbrev pub invariant-loop-read : goal.invariant-loop-read
invariant-loop-read l = Reading (as_read l.mask l.s) l.k l.place l.code l.read
