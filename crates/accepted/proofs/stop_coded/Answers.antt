-- `accepted::stop_coded` meets its contract: the stopped sweep on the walks of a strand is the one on its matches. Assumes nothing.
use Rattle.std.proofs.Common.{refl}
use Rattle.accepted.proofs.Walking.{strand_walks, walks_fit, stops}
use Rattle.accepted.proofs.stop_coded.Goals as goal

pub invariant_of-walk : goal.invariant_of-walk
invariant_of-walk c = record { safe = (strand_walks c.requires c.strand.ensures).safe }

pub returns : goal.returns
returns c =
    stops _ (strand_walks c.requires c.strand.ensures) _ refl c.stop_matches.ensures

pub stop_matches-requires : goal.stop_matches-requires
stop_matches-requires c =
    walks_fit c.requires (strand_walks c.requires c.strand.ensures)
