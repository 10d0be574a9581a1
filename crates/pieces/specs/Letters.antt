-- Document 01, "Frames": what a piece of a sequence is, and its letters. Assumes nothing.
use Rattle.std.specs.Prelude.{Bool, cond, ◌&&◌, List, map, ℕ, ◌+◌, leb, length}
use Rattle.rules.specs.Letters.{letter_of}
use Rattle.payloads.specs.Pieces.{all_codes, codes_in}

-- a piece has 1 to 64 bytes, and no "0 code anywhere but an odd last half"
unfoldable pub is_piece : List ℕ → Bool
unfolding all_codes codes_in
is_piece payload = leb 1 (length payload) && leb (length payload) 64 && all_codes (codes_in payload)

-- 25, and 26: "the sequence would pass 16,384 letters", where it has so many already
unfoldable pub piece_number : List ℕ → ℕ → ℕ
unfolding is_piece codes_in
piece_number payload count = cond (is_piece payload) (cond (leb (count + length (codes_in payload)) 16384) 0 26) 25

-- the letters of a piece
unfoldable pub letters_in : List ℕ → List ℕ
unfolding codes_in letter_of
letters_in payload = map letter_of (codes_in payload)
