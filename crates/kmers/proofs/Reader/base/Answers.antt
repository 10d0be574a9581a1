-- What is seen is right by the rule of the two bits at this byte. Assumes nothing.
use borrow.Author.Rules.{rules}
use mathlib.Core.Path.{◌∙◌}
use Rattle.kmers.proofs.Bases.{two_of, base_with, base_seen}
use Rattle.kmers.proofs.Reader.base.Goals as goal

pub returns : goal.returns
unfolding base_with two_of
returns c =
    let reader = c.args.self.now in
    c.then_some.ensures ∙ rw c.from.ensures (base_seen c.args.letter reader.sees (search rules) reader.mask reader.looks)
