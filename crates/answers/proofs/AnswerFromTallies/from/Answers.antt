-- The answer of what is done meets its contract: it is the definition. Assumes nothing.
use Rattle.std.proofs.Common.{refl}
use Rattle.rules.specs.Answers.{done}
use Rattle.answers.proofs.AnswerFromTallies.from.Goals as goal

pub returns : goal.returns
unfolding done
returns c = refl
