-- Document 01, "Frames": "Lines of hexadecimal, one frame a line: capital digits, then a line feed." Assumes nothing.
use Rattle.std.specs.Prelude.{ℕ, ◌+◌, ◌/◌, ◌%◌, cond, List, [], ◌∷◌, nat_lt}

-- the capital digit of a number below 16, in ASCII
unfoldable pub digit_of : ℕ → ℕ
digit_of n = cond (nat_lt n 10) (48 + n) (55 + n)

-- the digits of some bytes, two a byte, the high half first
unfoldable pub digits_of : List ℕ → List ℕ
unfolding digit_of
digits_of [] = []
digits_of (b ∷ bs) = digit_of (b / 16) ∷ digit_of (b % 16) ∷ digits_of bs
