-- Document 01, "Frames": each refusal of a line of the input, 20 to 26, and, where two apply to one line, that "the lowest number" is given. Assumes
-- nothing.
use Rattle.std.specs.Prelude.{◌≡◌, refl, List, [], ◌∷◌, ◌++◌, map, ℕ, replicate}
use Rattle.rules.specs.Lists.{text}
use Rattle.rules.specs.Entered.{settings}
use Rattle.lines.specs.Writing.{fed}
use Rattle.turns.specs.Turns.{Progress, line_number}

-- a line that comes when so much has been said, and its number
pub record Row : Type 0 where
  pub before : Progress
  pub line : List ℕ
  pub number : ℕ

-- P1's job and so many letters of both sequences, at a turn
abbrev pub at : ℕ → ℕ → Progress
at turn n = record { turn = turn; settings = settings 2 2 8 0 0 0; first = replicate n 65; second = replicate n 65 }

abbrev pub row : Progress → List ℕ → ℕ → Row
row before line number = record { before = before; line = line; number = number }

abbrev pub line_rows : List Row
unfolding text
line_rows =
    -- 20: no line feed, lower case, an odd count, 4 digits, 136; a line feed alone; something after it
    row (at 1 0) (text "0400FC") 20
    ∷ row (at 1 0) (fed (text "0400fc")) 20
    ∷ row (at 1 0) (fed (text "0400FC0")) 20
    ∷ row (at 1 0) (fed (text "0400")) 20
    ∷ row (at 1 0) (fed (text "0241" ++ replicate 130 49 ++ text "6C")) 20
    ∷ row (at 1 0) (fed []) 20
    ∷ row (at 1 0) (fed (fed (text "0400FC"))) 20
    -- 21: a length byte too great, and too small
    ∷ row (at 1 0) (fed (text "0401FB")) 21
    ∷ row (at 1 0) (fed (text "02001EE0")) 21
    -- 22: a check too great, and too small
    ∷ row (at 1 0) (fed (text "0400FD")) 22
    ∷ row (at 1 0) (fed (text "0400FB")) 22
    -- 23: kinds 00 and 05, and a frame that is written and not read
    ∷ row (at 1 0) (fed (text "000000")) 23
    ∷ row (at 1 0) (fed (text "0500FB")) 23
    ∷ row (at 1 0) (fed (text "100A00010005000100050003D7")) 23
    -- 24: a second job, a piece or an end before the job, a first sequence behind the second, anything after the end
    ∷ row (at 1 0) (fed (text "010702000200080000EC")) 24
    ∷ row (at 0 0) (fed (text "020312248045")) 24
    ∷ row (at 0 0) (fed (text "030312448024")) 24
    ∷ row (at 0 0) (fed (text "0400FC")) 24
    ∷ row (at 2 0) (fed (text "020312248045")) 24
    ∷ row (at 3 0) (fed (text "030312448024")) 24
    ∷ row (at 3 0) (fed (text "0400FC")) 24
    -- 25: a job of 6 bytes, a piece of none, an end of one
    ∷ row (at 0 0) (fed (text "0106020002000800ED")) 25
    ∷ row (at 1 0) (fed (text "0200FE")) 25
    ∷ row (at 1 0) (fed (text "040100FB")) 25
    -- 25: a 0 code alone, in a high half, in a low half before the last byte
    ∷ row (at 1 0) (fed (text "020100FD")) 25
    ∷ row (at 1 0) (fed (text "020101FC")) 25
    ∷ row (at 1 0) (fed (text "02021011DB")) 25
    -- 26: one letter past 16,384, in either sequence
    ∷ row (at 1 16384) (fed (text "020110ED")) 26
    ∷ row (at 1 16383) (fed (text "020111EC")) 26
    ∷ row (at 2 16384) (fed (text "030110EC")) 26
    -- 20 before 21: lower case, and another length
    ∷ row (at 1 0) (fed (text "0401fb")) 20
    -- 21 before 22: another length, and another check
    ∷ row (at 1 0) (fed (text "040100")) 21
    -- 22 before 23: another check, and kind 05
    ∷ row (at 1 0) (fed (text "0500FC")) 22
    -- 23 before 24: kind 05, after the end
    ∷ row (at 3 0) (fed (text "0500FB")) 23
    -- 24 before 25: an end of one byte, after the end; 24 before 26: a first sequence that is full, behind the second
    ∷ row (at 3 0) (fed (text "040100FB")) 24
    ∷ row (at 2 16384) (fed (text "020110ED")) 24
    -- 25 before 26: a 0 code, where the sequence is full
    ∷ row (at 1 16384) (fed (text "020100FD")) 25
    -- none: P1's lines, the last letters of a sequence, and a piece of 128 letters
    ∷ row (at 0 0) (fed (text "010702000200080000EC")) 0
    ∷ row (at 1 0) (fed (text "020312248045")) 0
    ∷ row (at 2 5) (fed (text "030312448024")) 0
    ∷ row (at 2 5) (fed (text "0400FC")) 0
    ∷ row (at 1 16383) (fed (text "020110ED")) 0
    ∷ row (at 1 16382) (fed (text "020111EC")) 0
    ∷ row (at 2 16383) (fed (text "030110EC")) 0
    ∷ row (at 1 0) (fed (text "0240" ++ replicate 128 49 ++ text "7E")) 0
    ∷ []

pub line_examples : map (λ (r : Row). line_number r.before r.line) line_rows ≡ map (λ (r : Row). r.number) line_rows
unfolding line_number text
line_examples = refl
