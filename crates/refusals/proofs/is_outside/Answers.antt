-- `refusals::is_outside` meets its contract: one test or the other. Assumes nothing.
use Rattle.std.proofs.Common.{arith}
use Rattle.std.proofs.lemmas.Bool.Decides.{nat_tests}
use Rattle.std.proofs.lemmas.Grind.{common_steps}
use Rattle.rules.specs.Answers.{outside}
use Rattle.refusals.proofs.is_outside.Goals as goal

pub returns : goal.returns
unfolding outside
returns c = grind (arith, common_steps, nat_tests)
