-- The answers of document 01 that tallies and refusals stand for. Assumes nothing.
use Rattle.std.specs.Prelude.{ℕ, ◌+◌, Result, Ok, Err}
use Rattle.rules.specs.declared.Answer.{Answer}
use Rattle.rules.specs.Answers.{refusal, done}
use Rattle.answers.specs.declared.Tallies.{Tallies}
use Rattle.answers.specs.declared.refusal.Sequence.{Sequence}
use Rattle.answers.specs.declared.refusal.Sequence.TheVariants.{First, Second}
use Rattle.answers.specs.declared.refusal.Refusal.{Refusal}
use Rattle.answers.specs.declared.refusal.Refusal.TheVariants.{KmerLength, GapBound, RepeatCap, LeastSpan, TooLong, BadLetter, WorkRoom, ListRoom, Strand, Mask, IndexRoom, WrongIndex, NoRow}

-- "a sequence (0, 1 or 2)"
abbrev pub sequence_number : Sequence → ℕ
sequence_number First = 1
sequence_number Second = 2

-- a refusal's number, sequence and detail, by the tables of documents 01 and 02
abbrev pub numbers_of : Refusal → ℕ × ℕ × ℕ
numbers_of KmerLength = (1, 0, 0)
numbers_of GapBound = (2, 0, 0)
numbers_of RepeatCap = (3, 0, 0)
numbers_of LeastSpan = (4, 0, 0)
numbers_of (TooLong sequence) = (5, sequence_number sequence, 0)
numbers_of (BadLetter sequence place) = (6, sequence_number sequence, place)
numbers_of (WorkRoom widest) = (7, 0, widest)
numbers_of (ListRoom listed) = (8, 0, listed)
numbers_of Strand = (9, 0, 0)
numbers_of Mask = (10, 0, 0)
numbers_of (IndexRoom places) = (11, 0, places)
numbers_of WrongIndex = (12, 0, 0)
numbers_of (NoRow rows) = (19, 0, rows)

-- the answer of a refusal
abbrev pub refusal_of : Refusal → Answer
refusal_of r = let n = numbers_of r in refusal n.0 n.1 n.2

-- the answer of what is done
abbrev pub tallied : Tallies → Answer
tallied t = done t.listed t.matches t.widest t.links

-- the answer of a job or an index
abbrev pub answer_of : Result Tallies Refusal → Answer
answer_of (Ok t) = tallied t
answer_of (Err r) = refusal_of r

-- the answer of an index that is built, with so many places, or refused
abbrev pub built_of : Result ℕ Refusal → Answer
built_of (Ok places) = done places 0 0 0
built_of (Err r) = refusal_of r

-- the answer of a check: number 0 where it passes, with whatever is known then
abbrev pub check_of : {A : Type 0} → Result A Refusal → Answer
check_of (Ok _) = refusal 0 0 0
check_of (Err r) = refusal_of r

-- the reply over the C boundary: a number of records, or 4,294,967,296 plus the refusal's number
abbrev pub reply_of : Result ℕ Refusal → ℕ
reply_of (Ok records) = records
reply_of (Err r) = 4294967296 + (numbers_of r).0
