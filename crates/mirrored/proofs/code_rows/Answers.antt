-- The first sequence turned, coded, and its codes read backwards. Assumes nothing.
use mathlib.Core.Path.{◌≡◌}
use lib.ListN.{length, take}
use Rattle.rules.specs.Letters.{reverse_complement, as_read}
use Rattle.rules.specs.Codes.{codes}
use Rattle.kmers.proofs.Codes.{Front, coded_front}
use Rattle.walks.proofs.Turning.{turned_front}
use Rattle.mirrored.proofs.Rows.{rows_coded}
use Rattle.mirrored.proofs.code_rows.Goals as goal

pub slice_bounds-codes-end : goal.slice_bounds-codes-end
slice_bounds-codes-end c =
    let coded : Front (codes c.args.c.k (as_read c.args.c.mask (take (length c.args.first.now) c.reverse_complement.new.out))) c.code_all-rows.new.out c.code_all-rows.result = coded_front c.args.c.k c.args.c.mask _ _ c.code_all-rows.ensures.value c.code_all-rows.ensures.out_after in
    coded.inside

pub slice_bounds-reverse_codes-end : goal.slice_bounds-reverse_codes-end
slice_bounds-reverse_codes-end c =
    let coded : Front (codes c.args.c.k (as_read c.args.c.mask (take (length c.args.first.now) c.reverse_complement.new.out))) c.code_all-rows.new.out c.code_all-rows.result = coded_front c.args.c.k c.args.c.mask _ _ c.code_all-rows.ensures.value c.code_all-rows.ensures.out_after in
    coded.long

pub returns : goal.returns
returns c =
    let coded : Front (codes c.args.c.k (as_read c.args.c.mask (take (length c.args.first.now) c.reverse_complement.new.out))) c.code_all-rows.new.out c.code_all-rows.result = coded_front c.args.c.k c.args.c.mask _ _ c.code_all-rows.ensures.value c.code_all-rows.ensures.out_after in
    let turned_is : take (length c.args.first.now) c.reverse_complement.new.out ≡ reverse_complement c.args.first.now = turned_front c.args.first.now _ _ c.reverse_complement.ensures in
    let both = rows_coded c.args.c c.args.first.now _ turned_is c.code_all-rows.ensures.value coded c.reverse_codes.ensures in
    record { value = both.0; out_after = both.1 }
