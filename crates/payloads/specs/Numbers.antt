-- Document 01, "Frames": "Numbers stand highest byte first." Assumes nothing.
use Rattle.std.specs.Prelude.{List, [], ◌∷◌, ◌++◌, ℕ, zero, suc, ◌+◌, ◌*◌, ◌/◌, ◌%◌, get_or}

-- a number in so many bytes
unfoldable pub number_bytes : ℕ → ℕ → List ℕ
number_bytes zero x = []
number_bytes (suc n) x = number_bytes n (x / 256) ++ (x % 256 ∷ [])

-- the number in so many bytes from a place on
unfoldable pub number_at : List ℕ → ℕ → ℕ → ℕ
number_at bytes at zero = 0
number_at bytes at (suc n) = number_at bytes at n * 256 + get_or bytes (at + n) 0
