-- The stopped sweep on the walks of a strand, found over the index, is the one on its matches. Assumes nothing.
use Rattle.std.proofs.Common.{length, refl}
use Rattle.rules.specs.Letters.{as_read}
use Rattle.rules.specs.Strands.{on_strand}
use Rattle.walks.proofs.Matching.{Matched}
use Rattle.accepted.proofs.Walking.{blank, walks_fit, stops}
use Rattle.mirrored.proofs.Matching.{columns_matched}
use Rattle.admitted.proofs.stop_indexed.Goals as goal

pub invariant_of-walk : goal.invariant_of-walk
invariant_of-walk c =
    let walked : Matched c.args.c c.args.coded.now (on_strand c.args.c.strand (as_read c.args.c.mask c.args.second.now)) c.strand.new.firsts c.strand.new.nexts (length c.args.coded.now) = columns_matched c.args.second.now c.requires.fits_first c.args.lookup.few c.requires.codes_value c.args.c.strand blank blank c.strand.ensures in
    record { safe = walked.safe }

pub returns : goal.returns
returns c =
    let walked : Matched c.args.c c.args.coded.now (on_strand c.args.c.strand (as_read c.args.c.mask c.args.second.now)) c.strand.new.firsts c.strand.new.nexts (length c.args.coded.now) = columns_matched c.args.second.now c.requires.fits_first c.args.lookup.few c.requires.codes_value c.args.c.strand blank blank c.strand.ensures in
    stops _ walked _ refl c.stop_matches.ensures

pub stop_matches-requires : goal.stop_matches-requires
stop_matches-requires c =
    let walked : Matched c.args.c c.args.coded.now (on_strand c.args.c.strand (as_read c.args.c.mask c.args.second.now)) c.strand.new.firsts c.strand.new.nexts (length c.args.coded.now) = columns_matched c.args.second.now c.requires.fits_first c.args.lookup.few c.requires.codes_value c.args.c.strand blank blank c.strand.ensures in
    walks_fit c.requires.fits walked
