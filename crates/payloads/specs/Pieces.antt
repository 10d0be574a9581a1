-- Document 01, "Frames": a piece is "two letter codes a byte, high half first; an odd last letter leaves the low half 0". Assumes nothing.
use Rattle.std.specs.Prelude.{Bool, true, cond, ◌&&◌, List, [], ◌∷◌, ℕ, ◌+◌, ◌*◌, ◌/◌, ◌%◌, eqb, leb, length}

-- "codes from 1 to 15"
unfoldable pub all_codes : List ℕ → Bool
all_codes [] = true
all_codes (c ∷ cs) = leb 1 c && leb c 15 && all_codes cs

-- two codes a byte
unfoldable pub code_bytes : List ℕ → List ℕ
code_bytes [] = []
code_bytes (a ∷ []) = a * 16 ∷ []
code_bytes (a ∷ b ∷ rest) = (a * 16 + b) ∷ code_bytes rest

-- and back: the low half of the last byte is a code where it is not 0
unfoldable pub codes_in : List ℕ → List ℕ
codes_in [] = []
codes_in (b ∷ []) = b / 16 ∷ cond (eqb (b % 16) 0) [] (b % 16 ∷ [])
codes_in (b ∷ c ∷ rest) = b / 16 ∷ b % 16 ∷ codes_in (c ∷ rest)

-- "a piece's letters are not 1 to 128 codes from 1 to 15"
unfoldable pub codes_fit : List ℕ → Bool
unfolding all_codes
codes_fit codes = leb 1 (length codes) && leb (length codes) 128 && all_codes codes
