-- A refusal in words, for who reads it. Assumes nothing.
use Rattle.std.specs.Prelude.{ℕ, List, ◌++◌, codes, decimal}
use Rattle.answers.specs.declared.refusal.Sequence.{Sequence}
use Rattle.answers.specs.declared.refusal.Sequence.TheVariants.{First, Second}
use Rattle.answers.specs.declared.refusal.Refusal.{Refusal}
use Rattle.answers.specs.declared.refusal.Refusal.TheVariants.{KmerLength, GapBound, RepeatCap, LeastSpan, TooLong, BadLetter, WorkRoom, ListRoom, Strand, Mask, IndexRoom, WrongIndex, NoRow}

abbrev pub sequence_words : Sequence → List ℕ
sequence_words First = codes "first"
sequence_words Second = codes "second"

abbrev pub refusal_words : Refusal → List ℕ
refusal_words KmerLength = codes "k is not from 1 to 31"
refusal_words GapBound = codes "b is not from 1 to 1024"
refusal_words RepeatCap = codes "a is not from 1 to 1024"
refusal_words LeastSpan = codes "m is not from 0 to 16384"
refusal_words (TooLong sequence) = codes "the " ++ sequence_words sequence ++ codes " sequence is too long"
refusal_words (BadLetter sequence place) = codes "no letter at place " ++ decimal place ++ codes " of the " ++ sequence_words sequence ++ codes " sequence"
refusal_words (WorkRoom widest) = codes "work room for fewer than " ++ decimal widest ++ codes " records"
refusal_words (ListRoom listed) = codes "list room for fewer than " ++ decimal listed ++ codes " entries"
refusal_words Strand = codes "the strand is not 0 or 1"
refusal_words Mask = codes "the mask setting is not 0 or 1"
refusal_words (IndexRoom places) = codes "index room for fewer than " ++ decimal places ++ codes " places"
refusal_words WrongIndex = codes "the index is not that of the second sequence"
refusal_words (NoRow rows) = codes "there are no more than " ++ decimal rows ++ codes " rows"
