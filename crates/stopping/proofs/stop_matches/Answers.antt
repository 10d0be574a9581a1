-- `stopping::stop_matches` meets its contract: each return is a line of the table. Assumes nothing.
use Rattle.std.proofs.Common.{refl, arith}
use Rattle.rules.specs.Rooms.{work_holds}
use Rattle.stopping.proofs.Outcomes.{fits_one, stopped_7, stopped_19, stopped_0}
use Rattle.stopping.proofs.stop_matches.Goals as goal

pub returns-then-holds-widest : goal.returns-then-holds-widest
returns-then-holds-widest c =
    stopped_7 _ _ _ refl c.count_matches-counts.ensures _ _ (omega (arith, c.record_count-holds.ensures, c.if-holds-widest.true)) refl
    c.zero_all.ensures

pub returns-then-rows-row : goal.returns-then-rows-row
returns-then-rows-row c =
    stopped_19 _ _ _ refl c.count_matches-counts.ensures _ _ (omega (arith, c.record_count-holds.ensures, c.if-holds-widest.false)) c.if-rows-row.true
    refl c.zero_all-then-rows-row.ensures

pub returns : goal.returns
returns c =
    stopped_0 _ _ _ refl c.count_matches-counts.ensures _ _ (omega (arith, c.record_count-holds.ensures, c.if-holds-widest.false)) c.if-rows-row.false
    c.hold-held.ensures c.count_links-links.ensures refl

pub hold-held-requires : goal.hold-held-requires
unfolding work_holds
hold-held-requires c =
    let (few, enough) = fits_one _ _ c.args.c refl c.count_matches-counts.ensures c.requires.walks in
    record { walked = c.requires; widest_in_bounds = omega (arith, c.record_count-holds.ensures, c.if-holds-widest.false); widest_bound = few; row_in_bounds = c.if-rows-row.false; nexts_bound = enough }
