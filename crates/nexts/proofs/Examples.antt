-- The definition at work, by computing: 5 has the columns 1, 3 and 5, and 0 is no k-mer. Assumes nothing.
use mathlib.Core.Path.{◌≡◌, refl}
use mathlib.Core.List.{List, [], ◌∷◌, map}
use Prim.Native.Nat.{ℕ}
use Rattle.rules.specs.Codes.{code_at}
use Rattle.ownership.specs.Owners.{first_in}
use Rattle.nexts.specs.Nexts.{next_column}

abbrev second : List ℕ
second = 5 ∷ 7 ∷ 5 ∷ 0 ∷ 5 ∷ 0 ∷ 3 ∷ []

pub nexts : map (next_column second) (1 ∷ 2 ∷ 3 ∷ 4 ∷ 5 ∷ 6 ∷ 7 ∷ []) ≡ 3 ∷ 0 ∷ 5 ∷ 0 ∷ 0 ∷ 0 ∷ 0 ∷ []
unfolding next_column code_at first_in
nexts = refl
