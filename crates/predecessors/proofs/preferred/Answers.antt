-- `predecessors::preferred` meets its contract: the order of the three numbers is the tie rule. Assumes nothing.
use Rattle.std.proofs.Common.{arith}
use Rattle.std.proofs.lemmas.Bool.Decides.{nat_tests}
use Rattle.rules.specs.Records.{beats}
use Rattle.predecessors.proofs.preferred.Goals as goal

pub returns : goal.returns
unfolding beats
returns c = grind (arith, nat_tests)
