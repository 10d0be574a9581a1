-- A piece taken behind the letters that its sequence has: the number, the count and the letters that are left. Assumes nothing.
use Rattle.std.specs.Prelude.{cond, List, ℕ, ◌+◌, eqb, length, Result, Ok, Err}
use Rattle.std.proofs.lemmas.List.Edits.{sets}
use Rattle.payloads.specs.Pieces.{codes_in}
use Rattle.lines.specs.declared.error.FrameError.{FrameError}
use Rattle.lines.specs.Errors.{number_of}
use Rattle.pieces.specs.Letters.{piece_number, letters_in}

-- what became of a piece: what is wrong with it, and how many letters its sequence has then
pub record Taken : Type 0 where
  pub number : ℕ
  pub count : ℕ

-- the count that is given, or what is wrong, by document 01's numbers, with the count that there was
abbrev pub taken_of : ℕ → Result ℕ FrameError → Taken
taken_of count (Ok n) = record { number = 0; count = n }
taken_of count (Err e) = record { number = number_of e; count = count }

-- a piece is taken behind so many letters, or not
unfoldable pub piece_taken : List ℕ → ℕ → Taken
unfolding piece_number codes_in
piece_taken payload count =
    let n = piece_number payload count in
    record { number = n; count = cond (eqb n 0) (count + length (codes_in payload)) count }

unfoldable pub piece_left : List ℕ → ℕ → List ℕ → List ℕ
unfolding piece_number letters_in
piece_left payload count letters = cond (eqb (piece_number payload count) 0) (sets letters count (letters_in payload)) letters
