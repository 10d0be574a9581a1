-- Either way out is right by the rule at this byte. Assumes nothing.
use native.Mathlib.Omega.{arith}
use borrow.Author.Rules.{rules}
use Rattle.letters.proofs.Capitals.{folded, turned_none, turned_one}
use Rattle.letters.proofs.complement_in.Goals as goal

pub returns-in-0 : goal.returns-in-0
unfolding folded
returns-in-0 c =
    turned_none {x = c.args.byte} (search rules) c.requires c.at_capital.ensures c.in-0.is

pub returns-in_default : goal.returns-in_default
unfolding folded
returns-in_default c =
    turned_one {x = c.args.byte} (search rules) c.requires c.at_capital.ensures (λ e. omega arith)
