-- Document 01, "Frames": what a line is, and the bytes of its digits. Assumes nothing.
use Rattle.std.specs.Prelude.{ℕ, ◌+◌, ◌-◌, ◌*◌, Bool, false, cond, ◌&&◌, List, [], ◌∷◌, length, ◌==◌, nat_le, nat_lt}

-- the number of a capital digit, 16 where the byte is none
unfoldable pub nibble_of : ℕ → ℕ
nibble_of c = cond (nat_lt c 48) 16 (cond (nat_le c 57) (c - 48) (cond (nat_lt c 65) 16 (cond (nat_le c 70) (c - 65 + 10) 16)))

-- an even count of capital digits closed by a line feed
unfoldable pub closed : List ℕ → Bool
unfolding nibble_of
closed [] = false
closed (a ∷ []) = a == 10
closed (a ∷ b ∷ rest) = nat_lt (nibble_of a) 16 && nat_lt (nibble_of b) 16 && closed rest

-- "an even count of 6 to 134 capital hex digits closed by a line feed"
unfoldable pub is_line : List ℕ → Bool
unfolding closed
is_line line = nat_le 7 (length line) && nat_le (length line) 135 && closed line

-- the bytes of a line's digits
unfoldable pub bytes_in : List ℕ → List ℕ
unfolding nibble_of
bytes_in [] = []
bytes_in (a ∷ []) = []
bytes_in (a ∷ b ∷ rest) = (nibble_of a * 16 + nibble_of b) ∷ bytes_in rest
