-- No k-mer has no owner; every other code is found by as many looks as there are columns. Assumes nothing.
use mathlib.Core.Path.{◌∙◌, ap}
use Rattle.std.specs.Option.{unwrap_or, option_flatten}
use Rattle.ownership.proofs.Owns.{own_none}
use Rattle.hashed.proofs.Tables.{looked_owner}
use Rattle.hashed.proofs.ColumnsOwners.owner_of.Goals as goal

pub returns-then-c-eq0 : goal.returns-then-c-eq0
returns-then-c-eq0 c =
    own_none c.args.self.now.second.now c.if-c-eq0.true

pub returns : goal.returns
returns c =
    c.unwrap_or.ensures
    ∙ ap (λ o. unwrap_or o 0) (c.flatten.ensures ∙ ap option_flatten c.ok.ensures.value)
    ∙ looked_owner c.find.result c.if-c-eq0.false c.find.ensures.found
