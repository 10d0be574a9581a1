-- The definitions at work, by computing. Assumes nothing.
use mathlib.Core.Path.{◌≡◌, refl}
use mathlib.Core.List.{List, [], ◌∷◌, map}
use Prim.Native.Nat.{ℕ}
use Rattle.rules.specs.Lists.{count_to}
use Rattle.rules.specs.Matches.{cell, row_to}
use Rattle.rules.specs.Codes.{code_at, occurrences, code_total, code_match}
use Rattle.ownership.specs.Owners.{first_in, own_of}
use Rattle.matches.specs.Columns.{first_column}
use Rattle.matches.specs.Walks.{walk}

abbrev first : List ℕ
first = 7 ∷ 0 ∷ 5 ∷ 9 ∷ 5 ∷ []

abbrev second : List ℕ
second = 5 ∷ 7 ∷ 5 ∷ 0 ∷ 5 ∷ 0 ∷ 3 ∷ []

-- 7 is in column 2; 0 is no k-mer; 5 has the columns 1, 3, 5 and the total 5; 9 has no column
pub firsts_at_5 : map (first_column first second 5) (1 ∷ 2 ∷ 3 ∷ 4 ∷ 5 ∷ []) ≡ 2 ∷ 0 ∷ 1 ∷ 0 ∷ 1 ∷ []
unfolding first_column own_of code_total occurrences code_at count_to first_in
firsts_at_5 = refl

-- a total of 5 is above a cap of 4
pub firsts_at_4 : map (first_column first second 4) (1 ∷ 2 ∷ 3 ∷ 4 ∷ 5 ∷ []) ≡ 2 ∷ 0 ∷ 0 ∷ 0 ∷ 0 ∷ []
unfolding first_column own_of code_total occurrences code_at count_to first_in
firsts_at_4 = refl

-- row 3 walked: columns 1, 3 and 5
pub row_3 : map (cell 3) (walk (3 ∷ 0 ∷ 5 ∷ 0 ∷ 0 ∷ 0 ∷ 0 ∷ []) 7 1) ≡ row_to (code_match first second 5) 3 7
unfolding walk row_to code_match code_total occurrences code_at count_to
row_3 = refl
