-- Document 01, "Frames": its numbers of what is wrong with a frame, and what an answer is by these numbers. Assumes nothing.
use Rattle.std.specs.Prelude.{ℕ, List, Result, Ok, Err, codes}
use Rattle.lines.specs.declared.error.FrameError.{FrameError}
use Rattle.lines.specs.declared.error.FrameError.TheVariants.{NotALine, WrongLength, WrongCheck, WrongKind, OutOfTurn, WrongPayload, TooManyLetters, DoesNotFit}

-- "20: not an even count of .. hex digits .. 21: length byte .. 22: check wrong. 23: kind .. 24: frame out of turn .. 25: payload size .. 26: .. letters", and
-- 27, which a writer gives
abbrev pub number_of : FrameError → ℕ
number_of NotALine = 20
number_of WrongLength = 21
number_of WrongCheck = 22
number_of WrongKind = 23
number_of OutOfTurn = 24
number_of WrongPayload = 25
number_of TooManyLetters = 26
number_of DoesNotFit = 27

-- the number of an answer: 0 where it is given, else that of what is wrong
abbrev pub number_in : {A : Type 0} → Result A FrameError → ℕ
number_in (Ok x) = 0
number_in (Err e) = number_of e

-- what is wrong, in words
abbrev pub words_of : FrameError → List ℕ
words_of NotALine = codes "not a line of hexadecimal"
words_of WrongLength = codes "the length byte is wrong"
words_of WrongCheck = codes "the check is wrong"
words_of WrongKind = codes "another kind"
words_of OutOfTurn = codes "out of turn"
words_of WrongPayload = codes "the payload is wrong for its kind"
words_of TooManyLetters = codes "the sequence has too many letters"
words_of DoesNotFit = codes "a value does not fit its field, or the line its slice"
