-- Document 01, "Frames": "Bytes: kind, payload length, payload, check. The sum of all bytes of a line wraps at 256 to zero.", and what a writer
-- answers and leaves. Assumes nothing.
use Rattle.std.specs.Prelude.{ℕ, ◌+◌, ◌-◌, ◌%◌, Bool, cond, ◌&&◌, List, [], ◌∷◌, ◌++◌, length, drop, nat_le, Result, Ok, Err}
use Rattle.lines.specs.declared.error.FrameError.{FrameError}
use Rattle.lines.specs.Errors.{number_of}
use Rattle.lines.specs.Digits.{digits_of}

unfoldable pub byte_sum : List ℕ → ℕ
byte_sum [] = 0
byte_sum (b ∷ bs) = b + byte_sum bs

-- the byte that brings the sum of some bytes to zero at 256
unfoldable pub check_of : List ℕ → ℕ
unfolding byte_sum
check_of bs = (256 - byte_sum bs % 256) % 256

-- "kind, payload length, payload, check"
unfoldable pub frame_of : ℕ → List ℕ → List ℕ
unfolding check_of
frame_of kind payload = let bs = kind ∷ length payload ∷ payload in bs ++ (check_of bs ∷ [])

-- a line as it is quoted, and its line feed
abbrev pub fed : List ℕ → List ℕ
fed line = line ++ (10 ∷ [])

-- "capital digits, then a line feed"
unfoldable pub line_of : ℕ → List ℕ → List ℕ
unfolding frame_of digits_of
line_of kind payload = fed (digits_of (frame_of kind payload))

-- a line is written where its values fit and "the slice is [not] shorter than the line with its line feed"
unfoldable pub is_written : Bool → List ℕ → List ℕ → Bool
is_written fits line out = fits && nat_le (length line) (length out)

-- what a writer answers: 0 and the line's length with its line feed, or 27 and length 0
pub record Written : Type 0 where
  pub number : ℕ
  pub length : ℕ

-- the length that a writer gives, or what is wrong, by document 01's numbers
abbrev pub written_of : Result ℕ FrameError → Written
written_of (Ok n) = record { number = 0; length = n }
written_of (Err e) = record { number = number_of e; length = 0 }

-- "It gives 27 and length 0 ..; otherwise it gives 0 and that length"
unfoldable pub written : Bool → List ℕ → List ℕ → Written
unfolding is_written
written fits line out = cond (is_written fits line out) (record { number = 0; length = length line }) (record { number = 27; length = 0 })

-- some bytes in front of a slice, and behind them what was there
unfoldable pub in_front : List ℕ → List ℕ → List ℕ
in_front bytes old = bytes ++ drop (length bytes) old

-- "slice untouched"; otherwise the line, "and bytes after the line stay as they were"
unfoldable pub leaves : Bool → List ℕ → List ℕ → List ℕ
unfolding is_written in_front
leaves fits line out = cond (is_written fits line out) (in_front line out) out
