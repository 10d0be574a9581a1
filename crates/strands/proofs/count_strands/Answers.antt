-- `strands::count_strands` meets its contract: each strand is counted by itself. Assumes nothing.
use Rattle.std.proofs.Common.{arith}
use Rattle.strands.proofs.Tallies.{sum_few, counts_both}
use Rattle.strands.proofs.count_strands.Goals as goal

pub overflow_add-result : goal.overflow_add-result
overflow_add-result c =
    omega (arith, sum_few c.args.strands.forward.safe c.args.strands.reverse.safe c.args.b c.count_matches-forward.ensures c.count_matches-reverse.ensures)

pub returns : goal.returns
returns c =
    counts_both c.args.strands.forward.safe c.args.strands.reverse.safe c.args.b c.count_matches-forward.ensures c.count_matches-reverse.ensures c.max.ensures
