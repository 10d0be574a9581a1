-- The table that it lays out is the list of the codes of the capitals. Assumes nothing.
use mathlib.Core.Path.{◌∙◌}
use borrow.Author.Rules.{rules}
use Rattle.letters.specs.Capitals.{capital_codes}
use Rattle.letters.proofs.Capitals.{folded, coded_right}
use Rattle.letters.proofs.code.Goals as goal

pub returns : goal.returns
unfolding capital_codes folded
returns c =
    c.at_capital.ensures ∙ coded_right _ (search rules)
