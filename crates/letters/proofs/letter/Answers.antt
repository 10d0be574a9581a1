-- The table is the list of the definition, and past its end nothing. Assumes nothing.
use Rattle.std.proofs.Common.{arith}
use Rattle.std.proofs.lemmas.Grind.{common_steps}
use Rattle.std.proofs.lemmas.Option.{gets, unwrap_or-slice_get}
use Rattle.rules.specs.Letters.{letter_of}
use Rattle.letters.proofs.letter.Goals as goal

pub returns : goal.returns
unfolding letter_of
returns c = grind (arith, common_steps, gets, unwrap_or-slice_get)
