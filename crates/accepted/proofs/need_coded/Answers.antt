-- `accepted::need_coded` meets its contract: W is counted from the walks of both strands. Assumes nothing.
use Rattle.std.proofs.Common.{refl}
use Rattle.accepted.proofs.Walking.{both_walks, measures}
use Rattle.accepted.proofs.need_coded.Goals as goal

pub slice_bounds-reverse_firsts-end : goal.slice_bounds-reverse_firsts-end
slice_bounds-reverse_firsts-end c =
    (both_walks c.requires c.both-reverse_rows.ensures).reverse.inside

pub slice_bounds-strands-end-3 : goal.slice_bounds-strands-end-3
slice_bounds-strands-end-3 c =
    (both_walks c.requires c.both-reverse_rows.ensures).reverse.long

pub invariant_of-strands : goal.invariant_of-strands
invariant_of-strands c = record { safe = (both_walks c.requires c.both-reverse_rows.ensures).forward.safe }

pub invariant_of-strands-2 : goal.invariant_of-strands-2
invariant_of-strands-2 c = record { safe = (both_walks c.requires c.both-reverse_rows.ensures).reverse.safe }

pub returns : goal.returns
returns c =
    measures (both_walks c.requires c.both-reverse_rows.ensures) refl c.count_strands-counts.ensures
