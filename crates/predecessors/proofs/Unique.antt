-- In a state of the sweep one record only can be found. Assumes nothing.
use mathlib.Core.Path.{◌≡◌, refl, sym, ◌∙◌}
use mathlib.Core.List.{List}
use Prim.Native.Nat.{ℕ}
use Rattle.std.proofs.Common.{Option, Some, None, ap, arith}
use Rattle.predecessors.specs.Found.{number_of}
use Rattle.rules.specs.declared.Record.{Record}
use Rattle.predecessors.specs.declared.ring.Ring.{Ring}
use Rattle.predecessors.specs.Numbers.{numbered}
use Rattle.predecessors.specs.Index.{Ready, Found}

-- any two results of `predecessors::search` are equal in what they state: the record
pub found_one : {b i j : ℕ} {all : List Record} {room latest : List ℕ} {ring : Ring} {tail near column from r s : ℕ}
    → Ready b i j all room latest ring tail near column from → Found room latest ring tail near column from b j r
    → Found room latest ring tail near column from b j s → numbered room ring r ≡ numbered room ring s
found_one {i = i} {all = all} v f g = f.picked i all v ∙ sym (g.picked i all v)

-- a number stands for one answer of a search, or for none
pub number_one : (x y : Option ℕ) → number_of x ≡ number_of y → x ≡ y
number_one None None e = refl
number_one None (Some h) e = absurd (omega arith)
number_one (Some g) None e = absurd (omega arith)
number_one (Some g) (Some h) e = let same : g ≡ h = omega arith in ap Some same
