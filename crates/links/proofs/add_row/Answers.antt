use Rattle.std.proofs.Common.{◌≡◌, ◌%◌, ◌^◌, ◌≤◌, ◌∙◌, refl, ap, arith}
use Rattle.matches.specs.Walks.{NextsSafe}
use Rattle.windows.specs.Windows.{window_sum}
use Rattle.windows.proofs.Windows.{window_more}
use Rattle.links.proofs.Links.{add_start, add_next, add_end}
use Rattle.links.proofs.add_row.Goals as goal

pub loop-j-init : goal.loop-j-init
loop-j-init c =
    let e = c.into_iter-j-iterator.ensures.into_iter_gives in
    record { steps = ap (λ x. x.nexts.now) e; added = rw e (add_start c.args.row.inside); window_holds = c.requires.window_holds; same_bound = refl }

pub loop-j-preserved : goal.loop-j-preserved
loop-j-preserved c =
    let v = c.loop-j.invariant in
    let e = c.in-Some.ensures.steps in
    let safe : NextsSafe c.args.row.nexts.now = record { few_columns = c.requires.few_columns; inside = c.args.row.safe.inside; rising = c.args.row.safe.rising } in
    let w = c.slide-window.ensures in
    let inside : c.in-Some.j ≤ 16384 = omega (arith, v.added.inside, c.requires.few_columns) in
    let linked : c.from-total.result ≡ window_sum c.loop-j.counts c.args.links.window.b c.loop-j.j-iterator.at % 2 ^ 32 =
    c.from-total.ensures ∙ w.summed ∙ (λ i. window_sum c.loop-j.counts (v.same_bound i) (e.1.0 i) % 2 ^ 32) in
    record {
      steps = e.0 ∙ v.steps;
      added = rw (e.1.2, e.1.0, v.steps) (add_next v.added safe e.1.1 linked refl);
      window_holds = rw (w.moved.0, w.moved.1) (window_more c.loop-j.counts c.loop-j.window.b v.window_holds.places c.in-Some.j inside w.summed refl);
      same_bound = w.moved.0 ∙ v.same_bound;
    }

pub returns-clause-row_added : goal.returns-clause-row_added
returns-clause-row_added c = add_end c.loop-j.invariant.added c.in-None.ensures.steps.1.0
