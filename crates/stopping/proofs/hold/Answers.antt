-- `stopping::hold` meets its contract: with W 0 no run has a record, and else the sweep of the first rows leaves the run. Assumes nothing.
use Rattle.std.proofs.Common.{◌≡◌, ◌-◌, arith}
use Rattle.stopping.proofs.Holding.{hold_safe, hold_enough, hold_front, holds_none, holds_swept}
use Rattle.stopping.proofs.hold.Goals as goal

pub returns-then-widest-eq0 : goal.returns-then-widest-eq0
returns-then-widest-eq0 c =
    holds_none c.if-widest-eq0.true c.requires.nexts_bound c.zero_all.ensures

pub returns : goal.returns
returns c =
    holds_swept c.requires.walked.walks c.requires.row_in_bounds c.hold_run.ensures

pub hold_run-requires : goal.hold_run-requires
hold_run-requires c =
    let last : c.saturating_sub-last.result ≡ c.args.row - c.args.c.b - 1 = omega arith in
    record { sweep_safe = hold_safe c.requires.walked c.requires.widest_in_bounds c.requires.row_in_bounds c.ring_from-ring.ensures; nexts_bound = hold_enough c.requires.walked.walks c.requires.row_in_bounds c.ring_from-ring.ensures c.args.c.b c.requires.nexts_bound; b_value = hold_front c.requires.walked.walks c.requires.row_in_bounds c.ring_from-ring.ensures c.args.c.b last c.matches_before-before.ensures }
