-- `walks::forward` meets its contract: the pass wrote the codes of all places, and the matches are found from these. Assumes nothing.
use Rattle.rules.specs.Letters.{as_read}
use Rattle.rules.specs.Codes.{codes}
use Rattle.kmers.proofs.Codes.{Front, coded_front}
use Rattle.walks.proofs.forward.Goals as goal

pub slice_bounds-codes-end : goal.slice_bounds-codes-end
slice_bounds-codes-end c =
    let coded : Front (codes c.args.c.k (as_read c.args.c.mask c.args.second.now)) c.code_all-columns.new.out c.code_all-columns.result = coded_front c.args.c.k c.args.c.mask c.args.second.now _ c.code_all-columns.ensures.value c.code_all-columns.ensures.out_after in
    coded.inside

pub slice_bounds-find_matches-end : goal.slice_bounds-find_matches-end
slice_bounds-find_matches-end c =
    let coded : Front (codes c.args.c.k (as_read c.args.c.mask c.args.second.now)) c.code_all-columns.new.out c.code_all-columns.result = coded_front c.args.c.k c.args.c.mask c.args.second.now _ c.code_all-columns.ensures.value c.code_all-columns.ensures.out_after in
    coded.long
