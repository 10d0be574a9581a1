-- Document 01, "Frames", with CR 1: what `chain` writes for a job, "the entries and one done frame, or one refused frame alone". "It lends 4,096 numbers
-- of work room and 2,000 of list room." Assumes nothing.
use Rattle.std.specs.Prelude.{cond, List, ◌++◌, ℕ, eqb, get_or, replicate}
use Rattle.rules.specs.declared.Settings.{Settings}
use Rattle.rules.specs.declared.Answer.{Answer}
use Rattle.rules.specs.Lists.{laid}
use Rattle.rules.specs.Letters.{as_read}
use Rattle.rules.specs.Strands.{entries}
use Rattle.rules.specs.Answers.{compared}
use Rattle.kinds.specs.declared.Entry.{Entry}
use Rattle.kinds.specs.declared.Done.{Done}
use Rattle.kinds.specs.declared.Refused.{Refused}
use Rattle.kinds.specs.Kinds.{entry_line, reverse_line, done_line, refused_line}

-- the first five numbers of an entry
unfoldable pub entry_of : List ℕ → Entry
entry_of numbers =
    record {
      first = record { start = get_or numbers 0 0; end = get_or numbers 1 0 };
      second = record { start = get_or numbers 2 0; end = get_or numbers 3 0 };
      weight = get_or numbers 4 0;
    }

-- its line: "Frame kind 12 .. carries a reverse entry's five numbers, kind 10 stays forward". The sixth number is the strand
unfoldable pub line_of_entry : List ℕ → List ℕ
unfolding entry_line reverse_line entry_of
line_of_entry numbers = cond (eqb (get_or numbers 5 0) 0) (entry_line (entry_of numbers)) (reverse_line (entry_of numbers))

unfoldable pub done_of : Answer → Done
done_of x = record { listed = x.listed; matches = x.matches; widest = x.widest; links = x.links }

unfoldable pub refused_of : Answer → Refused
refused_of x = record { number = x.number; sequence = x.sequence; detail = x.detail }

-- the answer of a job in these rooms
unfoldable pub answer_of : Settings → List ℕ → List ℕ → Answer
unfolding compared
answer_of c first second = (compared c first second (replicate 4096 0) (replicate 2000 0)).answer

-- CR 5: its entries are those of both sequences as they are read
unfoldable pub job_output : Settings → List ℕ → List ℕ → List ℕ
unfolding answer_of entries as_read laid line_of_entry done_line done_of refused_line refused_of
job_output c first second =
    let x = answer_of c first second in
    cond (eqb x.number 0) (laid line_of_entry (entries c (as_read c.mask first) (as_read c.mask second)) ++ done_line (done_of x))
    (refused_line (refused_of x))
