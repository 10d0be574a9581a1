-- Rows, columns and the index from the last to the first, and the matches from them. Assumes nothing.
use mathlib.Core.Path.{sym, ◌∙◌}
use native.Mathlib.Omega.{arith}
use lib.ListN.{length}
use Rattle.requests.proofs.Backwards.{kmers_back}
use Rattle.kmers.proofs.Codes.{Front, front_of, places_few}
use Rattle.mirrored.specs.Mirrored.{row_codes, column_codes}
use Rattle.mirrored.proofs.Rows.{row_count, column_count}
use Rattle.mirrored.proofs.Strands.{strand_columns}
use Rattle.mirrored.proofs.reverse.Goals as goal

pub slice_bounds-row_codes-end : goal.slice_bounds-row_codes-end
slice_bounds-row_codes-end c =
    let rows_front : Front (row_codes c.args.c 1 c.args.first.now) c.code_rows-rows.new.out c.code_rows-rows.result = front_of (row_codes c.args.c 1 c.args.first.now) _ (c.code_rows-rows.ensures.value ∙ sym (row_count c.args.c 1 c.args.first.now)) c.code_rows-rows.ensures.out_after in
    rows_front.inside

pub slice_bounds-find_matches-end : goal.slice_bounds-find_matches-end
slice_bounds-find_matches-end c =
    let rows_front : Front (row_codes c.args.c 1 c.args.first.now) c.code_rows-rows.new.out c.code_rows-rows.result = front_of (row_codes c.args.c 1 c.args.first.now) _ (c.code_rows-rows.ensures.value ∙ sym (row_count c.args.c 1 c.args.first.now)) c.code_rows-rows.ensures.out_after in
    rows_front.long

pub returns : goal.returns
unfolding column_codes
returns c =
    let columns_front : Front (column_codes 1 c.args.lookup.codes.now) c.reverse_codes.new.out (length c.args.lookup.codes.now) = front_of (column_codes 1 c.args.lookup.codes.now) _ (sym (column_count 1 c.args.lookup.codes.now)) c.reverse_codes.ensures in
    let rows_front : Front (row_codes c.args.c 1 c.args.first.now) c.code_rows-rows.new.out c.code_rows-rows.result = front_of (row_codes c.args.c 1 c.args.first.now) _ (c.code_rows-rows.ensures.value ∙ sym (row_count c.args.c 1 c.args.first.now)) c.code_rows-rows.ensures.out_after in
    strand_columns rows_front.front columns_front.front c.find_matches.ensures.first_columns c.find_matches.ensures.next_columns

pub invariant_of-turned : goal.invariant_of-turned
unfolding column_codes
invariant_of-turned c =
    let l = c.args.lookup in
    let columns_front : Front (column_codes 1 l.codes.now) c.reverse_codes.new.out (length l.codes.now) = front_of (column_codes 1 l.codes.now) _ (sym (column_count 1 l.codes.now)) c.reverse_codes.ensures in
    record {
      few = omega (arith, columns_front.long, l.few);
      counted = rw columns_front.front (l.counted ∙ sym (kmers_back l.codes.now));
      indexed = rw columns_front.front c.turn_index.ensures.indexed;
    }

pub find_matches-requires : goal.find_matches-requires
unfolding column_codes
find_matches-requires c =
    let l = c.args.lookup in
    let columns_front : Front (column_codes 1 l.codes.now) c.reverse_codes.new.out (length l.codes.now) = front_of (column_codes 1 l.codes.now) _ (sym (column_count 1 l.codes.now)) c.reverse_codes.ensures in
    let rows_front : Front (row_codes c.args.c 1 c.args.first.now) c.code_rows-rows.new.out c.code_rows-rows.result = front_of (row_codes c.args.c 1 c.args.first.now) _ (c.code_rows-rows.ensures.value ∙ sym (row_count c.args.c 1 c.args.first.now)) c.code_rows-rows.ensures.out_after in
    let few = places_few c.args.c.k c.args.first.now c.requires.le_k c.requires.first_len_bound in
    record {
      low_bound = omega (arith, c.low_bits-low.ensures, c.requires.k_bound);
      few_rows = omega (arith, rows_front.long, c.code_rows-rows.ensures.value, few);
      rows_in_bounds = omega (arith, rows_front.long, c.code_rows-rows.ensures.value, few, c.requires.firsts_len);
      columns_in_bounds = omega (arith, columns_front.long, l.few, c.requires.nexts_len);
    }
