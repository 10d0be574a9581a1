use mathlib.Core.Path.{refl}
use native.Mathlib.Omega.{arith}
use lib.ListN.{get_or}
use Rattle.rules.specs.Matches.{matches_to}
use Rattle.matches.specs.Walks.{walked_to}
use Rattle.matches.proofs.Walked.{row_few, walked_few}
use Rattle.tally.proofs.Runs.{row_is, before_next}
use Rattle.tally.proofs.matches_before.Goals as goal

pub loop-p-init : goal.loop-p-init
unfolding walked_to matches_to
loop-p-init c = refl

pub overflow_add-matches : goal.overflow_add-matches
overflow_add-matches c =
    let size = row_is c.row.ensures.nexts c.row.ensures.begins c.row_size-matches.ensures in
    omega (
      arith,
      c.loop-p.invariant,
      walked_few c.args.walk.safe c.loop-p.p,
      size,
      row_few c.args.walk.nexts.now (get_or c.args.walk.firsts.now c.loop-p.p 0),
      c.args.walk.safe.nexts_safe.few_columns,
      c.args.walk.safe.few_rows,
    )

pub loop-p-preserved : goal.loop-p-preserved
loop-p-preserved c =
    before_next c.args.walk.safe (omega arith) c.loop-p.invariant (row_is c.row.ensures.nexts c.row.ensures.begins c.row_size-matches.ensures)
