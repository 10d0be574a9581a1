-- The answers of document 01 that a check of one sequence stands for, under the sequence's number. Assumes nothing.
use Rattle.std.specs.Prelude.{ℕ, Result, Ok, Err}
use Rattle.rules.specs.declared.Answer.{Answer}
use Rattle.rules.specs.Answers.{refusal}
use Rattle.refusals.specs.declared.TooLong.{TooLong}
use Rattle.refusals.specs.declared.BadLetter.{BadLetter}

-- 5
abbrev pub length_answer : ℕ → Result (Unit {0}) TooLong → Answer
length_answer sequence (Ok _) = refusal 0 0 0
length_answer sequence (Err _) = refusal 5 sequence 0

-- 6, with the place
abbrev pub letters_answer : ℕ → Result (Unit {0}) BadLetter → Answer
letters_answer sequence (Ok _) = refusal 0 0 0
letters_answer sequence (Err bad) = refusal 6 sequence bad.place
