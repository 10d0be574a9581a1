-- Next columns and counts by owner, and the rows of k-mers that are not used set to 0. Assumes nothing.
use Rattle.std.proofs.Common.{◌≡◌, ℕ, length, arith}
use lib.ListN.{replicate, length-replicate}
use Rattle.ownership.proofs.Owns.{owned_owns}
use Rattle.totals.proofs.Counting.{all_zeros, tally_upto}
use Rattle.totals.proofs.Striking.{struck_upto, all_struck, struck_capped}
use Rattle.matches.proofs.Totals.{owned_upto, first_columns}
use Rattle.matches.proofs.finish_matches.Goals as goal

room : length {A = ℕ} (replicate 16384 0) ≡ 16384
room = length-replicate {A = ℕ} 16384 0

pub link_columns-requires : goal.link_columns-requires
link_columns-requires c =
    let s = c.requires in
    let z = all_zeros 16384 in
    record {
      second_len_bound = s.second_len_bound;
      second_in_bounds = s.second_in_bounds;
      second_in_bounds_2 = omega (arith, s.second_len_bound, room);
      second_in_bounds_3 = omega (arith, s.second_len_bound, room);
      second_in_bounds_4 = s.second_in_bounds_2;
      owns = owned_owns s.owned;
      zeros = z;
      zeros_2 = z;
    }

pub count_rows-late-requires : goal.count_rows-late-requires
count_rows-late-requires c =
    let s = c.requires in
    let counted = c.link_columns.ensures.tallied in
    record {
      n_in_bounds = s.first_in_bounds;
      n_bound = s.first_len_bound;
      upto = owned_upto (omega arith) (omega (arith, s.second_len_bound, counted.sums.long, room)) s.owned_2;
      upto_2 = tally_upto s.second_len_bound (all_zeros 16384) counted;
    }

pub cap-requires : goal.cap-requires
cap-requires c =
    let s = c.requires in
    let same = c.link_columns.ensures.tallied.sums.long in
    let counted = c.count_rows-late.ensures in
    record {
      n_in_bounds = omega (arith, s.first_in_bounds, counted.struck.rows.long);
      upto = struck_upto counted.struck (owned_upto (omega arith) (omega (arith, s.second_len_bound, same, counted.tallied.sums.long, room)) s.owned_2);
    }

pub returns-then-late : goal.returns-then-late
returns-then-late c =
    let s = c.requires in
    let links = c.link_columns.ensures in
    let counted = c.count_rows-late.ensures in
    record {
      first_columns = first_columns s.owned s.owned_2 (omega (arith, s.second_len_bound, room)) (all_zeros 16384) links.tallied counted.tallied
          (struck_capped counted.tallied (owned_upto (omega arith) (omega (arith, s.second_len_bound, links.tallied.sums.long, room)) s.owned_2)
          counted.struck c.cap.ensures);
      next_columns = links.next_columns;
    }

pub returns-else-late : goal.returns-else-late
returns-else-late c =
    let s = c.requires in
    let links = c.link_columns.ensures in
    let counted = c.count_rows-late.ensures in
    record {
      first_columns = first_columns s.owned s.owned_2 (omega (arith, s.second_len_bound, room)) (all_zeros 16384) links.tallied counted.tallied
          (all_struck counted.tallied (owned_upto (omega arith) (omega (arith, s.second_len_bound, links.tallied.sums.long, room)) s.owned_2)
          counted.struck (counted.none_passes c.if-late.false));
      next_columns = links.next_columns;
    }
