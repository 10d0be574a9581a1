-- Either way out is right by the rule at this byte. Assumes nothing.
use mathlib.Core.Path.{refl}
use borrow.Author.Rules.{rules}
use Rattle.letters.specs.Capitals.{capital_codes}
use Rattle.letters.proofs.Capitals.{folded, read_none, read_one}
use Rattle.letters.proofs.read_letter.Goals as goal

pub returns-then-at_capital-eq0 : goal.returns-then-at_capital-eq0
unfolding folded capital_codes
returns-then-at_capital-eq0 c =
    read_none {x = c.args.byte} (search rules) refl c.at_capital.ensures c.if-at_capital-eq0.true

pub returns-else-at_capital-eq0 : goal.returns-else-at_capital-eq0
unfolding folded capital_codes
returns-else-at_capital-eq0 c =
    read_one {x = c.args.byte} (search rules) refl c.at_capital.ensures c.if-at_capital-eq0.false
