use Rattle.std.proofs.Common.{◌+◌, ◌%◌, ◌^◌, ◌<◌, ◌≡◌, get_or, arith, refl, ap, ◌∙◌}
use Rattle.matches.specs.Walks.{NextsSafe}
use Rattle.windows.proofs.Windows.{window_less}
use Rattle.links.proofs.Releases.{release_start, release_next, release_end}
use Rattle.links.proofs.release_row.Goals as goal

pub loop-j-init : goal.loop-j-init
loop-j-init c =
    let e = c.into_iter-j-iterator.ensures.into_iter_gives in
    record { steps = ap (λ x. x.nexts.now) e; released = rw e (release_start c.args.row.inside); window_holds = c.requires.window_holds; same_bound = refl }

pub loop-j-preserved : goal.loop-j-preserved
loop-j-preserved c =
    let v = c.loop-j.invariant in
    let e = c.in-Some.ensures.steps in
    let safe : NextsSafe c.args.row.nexts.now = record { few_columns = c.requires.few_columns; inside = c.args.row.safe.inside; rising = c.args.row.safe.rising } in
    let j = c.in-Some.j in
    let fits : get_or c.loop-j.counts j 0 < 2 ^ 32 = omega arith in
    let one : ((get_or c.loop-j.counts j 0 + 4294967295) % 2 ^ 32 + 1) % 2 ^ 32 ≡ get_or c.loop-j.counts j 0 = omega arith in
    record {
      steps = e.0 ∙ v.steps;
      released = rw (e.1.2, e.1.0, v.steps) (release_next v.released safe e.1.1 (rw (← e.1.0) one) (omega arith));
      window_holds = rw (c.without-left.ensures.stays.0, c.without-left.ensures.stays.1) (window_less c.loop-j.counts c.loop-j.left.b v.window_holds j (omega (arith, v.released.inside, c.requires.few_columns)) _ one c.without-left.ensures.less (omega arith));
      same_bound = c.without-left.ensures.stays.0 ∙ v.same_bound;
    }

pub returns-clause-row_released : goal.returns-clause-row_released
returns-clause-row_released c = release_end c.loop-j.invariant.released c.in-None.ensures.steps.1.0
