-- `listing::release` meets its contract: what is behind t is old and listed in order, and the first that is not old ends it. Assumes nothing.
use Rattle.listing.proofs.Releasing.{Releasing}
use Rattle.listing.proofs.release.Given as goal

abbrev pub invariant-loop-t : goal.invariant-loop-t
invariant-loop-t l = Releasing l.c l.i l.room l.latest l.held.ring l.held.tail l.held.head l.initial.list l.initial.listed l.t l.list l.listed
