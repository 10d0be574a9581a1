-- `strands::link_strands` meets its contract: no sum of links comes near a word. Assumes nothing.
use Rattle.std.proofs.Common.{arith}
use Rattle.strands.proofs.Tallies.{links_few}
use Rattle.strands.proofs.link_strands.Goals as goal

pub overflow_add-result : goal.overflow_add-result
overflow_add-result c =
    omega (arith, links_few c.args.strands.forward.safe c.args.strands.reverse.safe c.args.b, c.count_links.ensures, c.count_links-2.ensures)
