-- `links::release` meets its contract: up to row b + 1 no row is released, and then row p - b is, walked once more. Assumes nothing.
use Rattle.links.proofs.Releases.{released_none, released_row}
use Rattle.links.proofs.release.Goals as goal

pub returns-in-Some-clause-released : goal.returns-in-Some-clause-released
returns-in-Some-clause-released c =
    let e = c.in-Some.ensures in
    released_row c.args.walk.firsts.now c.args.walk.nexts.now c.args.window.b c.args.p c.args.counts.now c.release_row.new.counts e.0 c.requires.p_in_bounds
    (rw (e.1, e.2) at c.release_row.ensures.row_released)

pub returns-in-None-clause-released : goal.returns-in-None-clause-released
returns-in-None-clause-released c =
    released_none c.args.walk.firsts.now c.args.walk.nexts.now c.args.window.b c.args.p c.args.counts.now c.in-None.ensures
