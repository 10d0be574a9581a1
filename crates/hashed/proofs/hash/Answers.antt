-- The code computes the definition, and what is left by 32,768 is below it. Assumes nothing.
use mathlib.Core.Path.{refl}
use borrow.Author.Rules.{rules}
use Rattle.hashed.specs.Table.{hash_of}
use Rattle.hashed.proofs.hash.Goals as goal

pub returns : goal.returns
unfolding hash_of
returns c =
    (refl, search rules)
