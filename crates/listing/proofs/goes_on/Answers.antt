-- `listing::goes_on` meets its contract: outside the columns there is no record, and else the latest decides. Assumes nothing.
use mathlib.Core.Path.{refl, sym, ◌∙◌}
use borrow.Author.Tests.{le-ltb}
use Rattle.listing.specs.Leaving.{later_in}
use Rattle.listing.proofs.Closing.{later_outside}
use Rattle.listing.proofs.goes_on.Goals as goal

pub returns-then-q-latest : goal.returns-then-q-latest
unfolding later_in
returns-then-q-latest c = refl

pub returns-else-q-latest : goal.returns-else-q-latest
returns-else-q-latest c = le-ltb _ _ c.if-q-latest.false ∙ sym (later_outside c.args.latest.now c.args.t c.args.q c.if-q-latest.false)
