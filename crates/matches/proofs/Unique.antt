-- First columns are fixed: every number is, by a definition or as it was; and so is a step along a row. Assumes nothing.
use mathlib.Core.Path.{◌≡◌, sym, ◌∙◌}
use mathlib.Core.List.{List}
use Prim.Native.Nat.{ℕ}
use lib.ListN.{length}
use Rattle.order.proofs.Cases.{one_list}
use Rattle.matches.specs.Columns.{FirstColumns}
use Rattle.matches.specs.Walks.{Steps}
use Rattle.std.proofs.Common.{Option, None, Some, refl, ap, arith}

-- any two results of `matches::find_matches`, of `matches::finish_matches` and of `lookups::find_matches` are equal: the first columns
pub firsts_one : {first second : List ℕ} {a : ℕ} {firsts₀ x y : List ℕ} → FirstColumns first second a firsts₀ x
    → FirstColumns first second a firsts₀ y → x ≡ y
firsts_one {first} f g =
    one_list (length first) f.long g.long (λ p l. f.rows p l ∙ sym (g.rows p l)) (λ p l. f.others p l ∙ sym (g.others p l))

-- any two results of `matches::Columns::next` are equal, and so are the columns that they leave: what it gives, and where the row goes on
pub one_step : (nexts : List ℕ) (x : ℕ) (r s : Option ℕ) {y z : ℕ} → Steps nexts x r y → Steps nexts x s z → (r ≡ s) × (y ≡ z)
one_step nexts x None None e f = (refl, e.1 ∙ sym f.1)
one_step nexts x (Some i) (Some j) e f = (ap Some (e.0 ∙ sym f.0), e.2 ∙ sym f.2)
one_step nexts x None (Some j) e f = absurd (omega arith)
one_step nexts x (Some i) None e f = absurd (omega arith)
