-- The lists that the tables of the capitals lay out. Assumes nothing.
use Rattle.std.specs.Prelude.{cond, List, [], ◌∷◌, ℕ, ◌-◌, ltb, get_or}

-- the code of each capital from A to Z, 0 where it is none of the fifteen
unfoldable pub capital_codes : List ℕ
capital_codes = 1 ∷ 14 ∷ 2 ∷ 13 ∷ 0 ∷ 0 ∷ 4 ∷ 11 ∷ 0 ∷ 0 ∷ 12 ∷ 0 ∷ 3 ∷ 15 ∷ 0 ∷ 0 ∷ 0 ∷ 5 ∷ 6 ∷ 8 ∷ 0 ∷ 7 ∷ 9 ∷ 0 ∷ 10 ∷ 0 ∷ []

-- the complement of each
unfoldable pub capital_complements : List ℕ
capital_complements =
    84 ∷ 86 ∷ 71 ∷ 72 ∷ 0 ∷ 0 ∷ 67 ∷ 68 ∷ 0 ∷ 0 ∷ 77 ∷ 0 ∷ 75 ∷ 78 ∷ 0 ∷ 0 ∷ 0 ∷ 89 ∷ 83 ∷ 65 ∷ 0 ∷ 66 ∷ 87 ∷ 0 ∷ 82 ∷ 0 ∷ []

-- what such a list has for a byte, 0 for one that is no capital from A, which is 65, to Z, which is 90
unfoldable pub at_capital : List ℕ → ℕ → ℕ
at_capital table x = cond (ltb x 65) 0 (cond (ltb 90 x) 0 (get_or table (x - 65) 0))
