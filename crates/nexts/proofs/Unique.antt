-- Next columns are fixed: every number is, by a definition or as it was. Assumes nothing.
use mathlib.Core.Path.{◌≡◌, sym, ◌∙◌}
use mathlib.Core.List.{List}
use Prim.Native.Nat.{ℕ}
use lib.ListN.{length}
use Rattle.order.proofs.Cases.{one_list}
use Rattle.nexts.specs.Nexts.{NextColumns}

-- any two results of `nexts::link_columns`, of `matches::find_matches`, of `matches::finish_matches` and of `lookups::find_matches` are equal: the next columns
pub nexts_one : {second nexts₀ x y : List ℕ} → NextColumns second nexts₀ x → NextColumns second nexts₀ y → x ≡ y
nexts_one {second} f g =
    one_list (length second) f.long g.long (λ p l. f.columns p l ∙ sym (g.columns p l)) (λ p l. f.others p l ∙ sym (g.others p l))
