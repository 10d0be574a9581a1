-- The places are counted from the length. Assumes nothing.
use Rattle.rules.specs.Places.{places}
use Rattle.kmers.proofs.code_all.Goals as goal

pub returns-clause-value : goal.returns-clause-value
unfolding places
returns-clause-value c = c.places.ensures
