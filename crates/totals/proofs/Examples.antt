-- The definitions at work, by computing. Assumes nothing.
use mathlib.Core.Path.{◌≡◌, refl}
use mathlib.Core.List.{List, [], ◌∷◌, map}
use Prim.Native.Nat.{ℕ}
use Rattle.order.specs.Counts.{count_in}
use Rattle.totals.specs.Steps.{unless_above, struck_at, capped_at}

-- the owners of the rows; 5, of column 1, has three columns, and 7, of column 2, one
abbrev owners : List ℕ
owners = 2 ∷ 0 ∷ 1 ∷ 0 ∷ 1 ∷ []

-- with a = 2 it has passed in the columns, and its rows are struck
pub struck_at_2 : map (struck_at (3 ∷ 1 ∷ []) 2 owners) (0 ∷ 1 ∷ 2 ∷ 3 ∷ 4 ∷ []) ≡ 2 ∷ 0 ∷ 0 ∷ 0 ∷ 0 ∷ []
unfolding struck_at unless_above count_in
struck_at_2 = refl

-- with a = 3 it passes at row 3, which is left to be capped, and row 5 is struck
pub struck_at_3 : map (struck_at (3 ∷ 1 ∷ []) 3 owners) (0 ∷ 1 ∷ 2 ∷ 3 ∷ 4 ∷ []) ≡ 2 ∷ 0 ∷ 1 ∷ 0 ∷ 0 ∷ []
unfolding struck_at unless_above count_in
struck_at_3 = refl

pub capped_at_3 : map (capped_at (4 ∷ 2 ∷ []) 3 (2 ∷ 0 ∷ 1 ∷ 0 ∷ 0 ∷ [])) (0 ∷ 1 ∷ 2 ∷ 3 ∷ 4 ∷ []) ≡ 2 ∷ 0 ∷ 0 ∷ 0 ∷ 0 ∷ []
unfolding capped_at unless_above
capped_at_3 = refl
