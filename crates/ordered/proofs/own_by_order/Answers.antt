-- The places just sorted are ready to be searched. Assumes nothing.
use Rattle.std.proofs.Common.{ℕ, arith}
use Rattle.std.proofs.lemmas.Grind.{merely}
use lib.ListN.{length-replicate}
use Rattle.ordered.proofs.Lowers.{ordered_ready}
use Rattle.ordered.proofs.own_by_order.Goals as goal

pub invariant_of-sorted : goal.invariant_of-sorted
invariant_of-sorted c = record {
  few = c.requires.second_len_bound;
  ordered = merely (ordered_ready (omega (arith, length-replicate {A = ℕ} 16384 0)) c.sort_places-m.ensures);
}
