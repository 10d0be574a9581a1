-- Document 01, "Frames": "one frame a line". The lines of an input, each with its line feed; the last may lack it. Assumes nothing.
use Rattle.std.specs.Prelude.{cond, List, [], ◌∷◌, ℕ, suc, eqb}

-- a byte before some lines belongs to the first of them
unfoldable pub add_to : ℕ → List (List ℕ) → List (List ℕ)
add_to b [] = (b ∷ []) ∷ []
add_to b (l ∷ ls) = (b ∷ l) ∷ ls

unfoldable pub lines_of : List ℕ → List (List ℕ)
unfolding add_to
lines_of [] = []
lines_of (b ∷ bs) = let r = lines_of bs in cond (eqb b 10) ((b ∷ []) ∷ r) (add_to b r)

-- how many bytes the first line has
unfoldable pub line_size : List ℕ → ℕ
line_size [] = 0
line_size (b ∷ bs) = let r = line_size bs in cond (eqb b 10) 1 (suc r)
