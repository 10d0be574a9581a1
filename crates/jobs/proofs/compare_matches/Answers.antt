-- `jobs::compare_matches` meets its contract: it refuses for room, or ends as the rooms that the sweeps left do. Assumes nothing.
use Rattle.std.proofs.Common.{refl, arith}
use Rattle.rules.specs.Rooms.{work_holds}
use Rattle.jobs.proofs.Outcomes.{fits_both, compare_7, compare_on}
use Rattle.jobs.proofs.compare_matches.Goals as goal

pub returns-then-record_count-widest : goal.returns-then-record_count-widest
returns-then-record_count-widest c =
    compare_7 _ _ _ _ _ refl c.count_strands-counts.ensures _ _ _
    (omega (arith, c.record_count.ensures, c.if-record_count-widest.true)) refl c.zero_all.ensures c.zero_all-then-record_count-widest.ensures

pub returns : goal.returns
returns c =
    compare_on _ _ _ _ _ refl c.count_strands-counts.ensures _ _
    c.list_strands-listed.new.work _ (omega (arith, c.record_count.ensures, c.if-record_count-widest.false)) c.list_strands-listed.auto.work
    c.list_strands-listed.auto.list
    c.list_strands-listed.ensures.entered c.finish.ensures

pub list_strands-listed-requires : goal.list_strands-listed-requires
unfolding work_holds
list_strands-listed-requires c =
    let (few, enough, reverse-enough) =
    fits_both c.requires.walked.walks c.requires.walked_2.walks c.args.c refl c.count_strands-counts.ensures in
    record { walked = c.requires.walked; walked_2 = c.requires.walked_2; slots_in_bounds = omega (arith, c.record_count.ensures, c.if-record_count-widest.false); slots_bound = few; letters_bound = c.requires.letters_bound; nexts_bound = enough; reverse_nexts_bound = reverse-enough }
