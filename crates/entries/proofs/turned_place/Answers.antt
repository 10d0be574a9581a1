-- `entries::turned_place` meets its contract: it is the definition. Assumes nothing.
use Rattle.std.proofs.Common.{rules}
use Rattle.rules.specs.Strands.{turned}
use Rattle.entries.proofs.turned_place.Goals as goal

pub returns : goal.returns
unfolding turned
returns c = search rules
