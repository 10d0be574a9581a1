-- Both ways are the two sides of the condition. Assumes nothing.
use Rattle.std.proofs.Common.{arith}
use Rattle.std.proofs.lemmas.Bool.Decides.{nat_tests}
use Rattle.directory.specs.Directory.{next_near}
use Rattle.directory.proofs.next_near.Goals as goal

pub returns-then-owner-eq0 : goal.returns-then-owner-eq0
unfolding next_near
returns-then-owner-eq0 c = grind (arith, nat_tests)

pub returns-else-owner-eq0 : goal.returns-else-owner-eq0
unfolding next_near
returns-else-owner-eq0 c = grind (arith, nat_tests)
