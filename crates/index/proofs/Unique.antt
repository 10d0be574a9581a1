-- Keys are fixed: every number is, by the code of a place or as it was. Assumes nothing.
use mathlib.Core.Path.{◌≡◌, sym, ◌∙◌}
use mathlib.Core.List.{List}
use Prim.Native.Nat.{ℕ}
use Rattle.order.proofs.Cases.{one_list}
use Rattle.index.specs.Keys.{Keyed}

-- any two results of `index::check` are equal: the keys
pub keys_one : {codes index keys₀ x y : List ℕ} {n : ℕ} → Keyed codes index keys₀ x n → Keyed codes index keys₀ y n → x ≡ y
keys_one {n = n} f g = one_list n f.long g.long (λ q l. f.key q l ∙ sym (g.key q l)) (λ q l. f.others q l ∙ sym (g.others q l))
