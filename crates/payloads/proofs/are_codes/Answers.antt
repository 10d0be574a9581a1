-- Each code is looked at. Assumes nothing.
use Rattle.std.proofs.Common.{◌∙◌, rules}
use Rattle.std.proofs.lemmas.Iterator.{YieldsList-from_slice}
use Rattle.std.proofs.lemmas.Iterator.Search.{all_from_yields_List}
use Rattle.payloads.proofs.Pieces.{is_code, codes_all}
use Rattle.payloads.proofs.are_codes.Goals as goal

pub returns : goal.returns
returns c =
    all_from_yields_List is_code _ _ _ c.all.ensures.ran (YieldsList-from_slice c.args.codes.now cc) (λ x b q k. search rules)
    ∙ codes_all c.args.codes.now
