-- Document 01, "Frames": the readers' refusals, "20, 21, 22, 23 (another kind), 25, in that order, with sequence, detail and values 0", and P1's lines
-- read. CR 1: the line of a reverse entry that P1 over both strands has. Assumes nothing.
use Rattle.std.specs.Prelude.{◌≡◌, refl, List, [], ◌∷◌, map, ℕ, replicate}
use Prim.Native.String.{String}
use Rattle.rules.specs.Lists.{text}
use Rattle.lines.specs.Writing.{fed}
use Rattle.readers.specs.Readers.{EntryRead, DoneRead, RefusedRead, read_entry, read_reverse, read_done, read_refused}

-- a line read, all its numbers in their order: number, sequence, detail and values
abbrev pub entry_read : EntryRead → List ℕ
entry_read r =
    r.number ∷ r.sequence ∷ r.detail ∷ r.entry.first.start ∷ r.entry.first.end ∷ r.entry.second.start ∷ r.entry.second.end
    ∷ r.entry.weight
    ∷ []

abbrev pub done_read : DoneRead → List ℕ
done_read r = r.number ∷ r.sequence ∷ r.detail ∷ r.done.listed ∷ r.done.matches ∷ r.done.widest ∷ r.done.links ∷ []

abbrev pub refused_read : RefusedRead → List ℕ
refused_read r = r.number ∷ r.sequence ∷ r.detail ∷ r.refused.number ∷ r.refused.sequence ∷ r.refused.detail ∷ []

-- what a reader says of a line, and what it is to say
pub record Row : Type 0 where
  pub said : List ℕ
  pub given : List ℕ

abbrev pub entry_row : String → List ℕ → Row
unfolding text read_entry
entry_row line given = record { said = entry_read (read_entry (fed (text line))); given = given }

abbrev pub reverse_row : String → List ℕ → Row
unfolding text read_reverse
reverse_row line given = record { said = entry_read (read_reverse (fed (text line))); given = given }

abbrev pub done_row : String → List ℕ → Row
unfolding text read_done
done_row line given = record { said = done_read (read_done (fed (text line))); given = given }

abbrev pub refused_row : String → List ℕ → Row
unfolding text read_refused
refused_row line given = record { said = refused_read (read_refused (fed (text line))); given = given }

-- a number, and all others 0
abbrev pub number_alone : ℕ → ℕ → List ℕ
number_alone number others = number ∷ replicate others 0

abbrev pub reading_rows : List Row
reading_rows =
    entry_row "100A00010005000100050003D7" (0 ∷ 0 ∷ 0 ∷ 1 ∷ 5 ∷ 1 ∷ 5 ∷ 3 ∷ [])
    ∷ done_row "11140000000100000003000000020000000000000002D3" (0 ∷ 0 ∷ 0 ∷ 1 ∷ 3 ∷ 2 ∷ 2 ∷ [])
    ∷ reverse_row "120A00010005000100050004D4" (0 ∷ 0 ∷ 0 ∷ 1 ∷ 5 ∷ 1 ∷ 5 ∷ 4 ∷ [])
    ∷ refused_row "1F06010000000000DA" (0 ∷ 0 ∷ 0 ∷ 1 ∷ 0 ∷ 0 ∷ [])
    -- 20: lower case, no digits, a byte that is no digit
    ∷ entry_row "100A00010005000100050003d7" (number_alone 20 7)
    ∷ reverse_row "120a00010005000100050004D4" (number_alone 20 7)
    ∷ done_row "" (number_alone 20 6)
    ∷ refused_row "1F06010000000000DG" (number_alone 20 5)
    -- 21, 22, 23 and 25 of each
    ∷ entry_row "100B00010005000100050003D6" (number_alone 21 7)
    ∷ entry_row "100A00010005000100050003D8" (number_alone 22 7)
    ∷ entry_row "120A00010005000100050004D4" (number_alone 23 7)
    ∷ entry_row "1000F0" (number_alone 25 7)
    ∷ reverse_row "120B00010005000100050004D3" (number_alone 21 7)
    ∷ reverse_row "120A00010005000100050004D5" (number_alone 22 7)
    ∷ reverse_row "100A00010005000100050003D7" (number_alone 23 7)
    ∷ reverse_row "1200EE" (number_alone 25 7)
    ∷ done_row "1101EE" (number_alone 21 6)
    ∷ done_row "1100EE" (number_alone 22 6)
    ∷ done_row "0400FC" (number_alone 23 6)
    ∷ done_row "1100EF" (number_alone 25 6)
    ∷ refused_row "1F01E0" (number_alone 21 5)
    ∷ refused_row "1F00E0" (number_alone 22 5)
    ∷ refused_row "1100EF" (number_alone 23 5)
    ∷ refused_row "1F00E1" (number_alone 25 5)
    -- which is given where two apply: 20 before 21, 21 before 22, 22 before 23, 23 before 25
    ∷ entry_row "100b00010005000100050003D6" (number_alone 20 7)
    ∷ entry_row "100B00010005000100050003D7" (number_alone 21 7)
    ∷ entry_row "120A00010005000100050004D5" (number_alone 22 7)
    ∷ entry_row "1100EF" (number_alone 23 7)
    ∷ []

pub reading_examples : map (λ (r : Row). r.said) reading_rows ≡ map (λ (r : Row). r.given) reading_rows
unfolding read_entry read_reverse read_done read_refused text
reading_examples = refl
