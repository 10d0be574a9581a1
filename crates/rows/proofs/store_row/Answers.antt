use Rattle.std.proofs.Common.{◌∙◌, arith}
use Rattle.rows.proofs.Turning.{row_next, row_end}
use Rattle.rows.proofs.store_row.Goals as goal

pub loop-j-preserved : goal.loop-j-preserved
loop-j-preserved c =
    let v = c.loop-j.invariant in
    let e = c.in-Some.ensures.steps in
    record {
      steps = e.0 ∙ v.steps;
      stored = rw (e.1.2, e.1.0, v.steps) (row_next c.requires v.stored (λ z. omega arith) c.add.auto.room c.add.auto.latest (rw e.1.0 at c.add.ensures));
    }

pub returns : goal.returns
returns c =
    row_end c.requires c.loop-j.invariant.stored c.in-None.ensures.steps.1.0
