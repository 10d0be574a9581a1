-- `rooms::zero_all` meets its contract: it is the definition. Assumes nothing.
use Rattle.std.proofs.Common.{rules}
use Rattle.rules.specs.Lists.{zeros}
use Rattle.rooms.proofs.zero_all.Goals as goal

pub returns : goal.returns
unfolding zeros
returns c = search rules
