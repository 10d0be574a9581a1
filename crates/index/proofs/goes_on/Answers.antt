-- The order by code and place, of a code that is not 0. Assumes nothing.
use Rattle.std.proofs.Common.{arith}
use Rattle.std.proofs.lemmas.Bool.Decides.{nat_tests}
use Rattle.index.specs.Keys.{goes_on}
use Rattle.index.proofs.goes_on.Goals as goal

pub returns-then-c-ne0 : goal.returns-then-c-ne0
unfolding goes_on
returns-then-c-ne0 c = grind (arith, nat_tests)

pub returns-else-c-ne0 : goal.returns-else-c-ne0
unfolding goes_on
returns-else-c-ne0 c = grind (arith, nat_tests)
