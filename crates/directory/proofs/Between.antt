-- What stands between two indices of a list. Assumes nothing.
use mathlib.Core.Path.{◌≡◌, ap, ◌∙◌}
use mathlib.Core.List.{List}
use Prim.Native.Nat.{ℕ, ◌+◌, ◌-◌, ◌<◌, ◌≤◌}
use native.Mathlib.Omega.{arith}
use lib.ListN.{length, get_or, take, drop, length-take, length-drop}
use Rattle.std.proofs.Common.{get_or-take}
use Rattle.std.proofs.lemmas.List.{get_or-drop}
use Rattle.std.proofs.lemmas.Grind.{get_or_default_zero}

abbrev pub between : List ℕ → ℕ → ℕ → List ℕ
between l from to = take (to - from) (drop from l)

module _ (l : List ℕ) (from to : ℕ) (inside : to ≤ length l) where
  pub between_length : length (between l from to) ≡ to - from
  between_length = omega (arith, length-take {A = ℕ}, length-drop {A = ℕ})

  pub between_at : (q d : ℕ) → q < to - from → get_or (between l from to) q d ≡ get_or l (from + q) 0
  between_at q d h = get_or-take (to - from) (drop from l) q d h ∙ get_or-drop from l q d ∙ get_or_default_zero l (from + q) d (omega arith)

  -- by the index in the whole list
  pub between_here : (p : ℕ) → from ≤ p → p < to → get_or (between l from to) (p - from) 0 ≡ get_or l p 0
  between_here p a b = let e : from + (p - from) ≡ p = omega arith in between_at (p - from) 0 (omega arith) ∙ ap (λ (m : ℕ). get_or l m 0) e
