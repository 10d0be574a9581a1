-- Owners are fixed: every number is, by a definition or as it was. Assumes nothing.
use mathlib.Core.Path.{◌≡◌, sym, ◌∙◌}
use mathlib.Core.List.{List}
use Prim.Native.Nat.{ℕ, ◌≤◌}
use lib.ListN.{get_or}
use Rattle.order.proofs.Cases.{one_list}
use Rattle.ownership.specs.Owners.{Owned, Kept}

-- any two results of `ownership::own_each`, of `ordered::own_by_order`, of `owners::own_all`, of `directory::own_rows` and of `columns::own_columns` are equal
pub owned_one : {second codes own₀ x y : List ℕ} {n : ℕ} → Owned second codes own₀ x n → Owned second codes own₀ y n → x ≡ y
owned_one {n = n} a b =
    one_list n a.long b.long (λ p l. a.owners p l ∙ sym (b.owners p l)) (λ p l. a.others p l ∙ sym (b.others p l))

-- any two results of `hashed::build` are equal in what they state: behind the columns every number, and where there is a table the owners (`owned_one`)
pub kept_one : {own₀ x y : List ℕ} {n : ℕ} → Kept own₀ x n → Kept own₀ y n → (p : ℕ) → n ≤ p → get_or x p 0 ≡ get_or y p 0
kept_one a b p l = a.others p l ∙ sym (b.others p l)
