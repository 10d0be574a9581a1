-- The position found is a place counted from 0. Assumes nothing.
use mathlib.Core.Path.{◌≡◌, ap, ◌∙◌}
use Prim.Native.Nat.{◌+◌}
use borrow.Author.Rules.{rules}
use borrow.Author.Tests.{tests}
use Rattle.std.specs.Option.{option_map}
use Rattle.std.proofs.lemmas.Iterator.{YieldsList-from_slice}
use Rattle.std.proofs.lemmas.Iterator.Search.{position_from_yields_List}
use Rattle.letters.specs.Capitals.{capital_codes}
use Rattle.letters.proofs.Capitals.{folded}
use Rattle.letters.proofs.Searching.{is_bad, found_place}
use Rattle.letters.proofs.bad_place.Goals as goal

pub returns : goal.returns
unfolding capital_codes folded
returns c =
    let s = c.args.s.now in
    let found = position_from_yields_List is_bad _ _ c.position.result c.position.ensures.ran (YieldsList-from_slice s cc) (λ x b q k. search (rules, tests)) in
    let mapped : c.map.result ≡ option_map (λ p. p + 1) c.position.result = search rules in
    mapped ∙ ap (option_map (λ p. p + 1)) found ∙ found_place s (λ k. search rules)
