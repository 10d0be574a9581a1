-- Document 01, "Frames", over the C boundary: a kind by its number (10 is 16, 11 is 17, 12 is 18 and 1F is 31) and its values in the order of the
-- table of kinds, a job's as `job_line` has them, with CR 1's strand last. Assumes nothing.
use Rattle.std.specs.Prelude.{Bool, true, false, cond, ◌&&◌, ◌||◌, List, [], ◌∷◌, ℕ, ◌+◌, eqb, length, get_or}
use Rattle.rules.specs.declared.Settings.{Settings}
use Rattle.rules.specs.Lists.{then_zeros}
use Rattle.rules.specs.Entered.{settings}
use Rattle.lines.specs.Writing.{Written, written, leaves}
use Rattle.payloads.specs.Pieces.{codes_fit}
use Rattle.kinds.specs.declared.Entry.{Entry}
use Rattle.kinds.specs.declared.Done.{Done}
use Rattle.kinds.specs.declared.Refused.{Refused}
use Rattle.kinds.specs.Kinds.{job_fits, job_line, piece_line, end_line, entry_fits, entry_line, reverse_line, done_fits, done_line, refused_fits, refused_line}
use Rattle.readers.specs.Readers.{read_entry, read_reverse, read_done, read_refused}

-- ---- the values of each kind

-- "k (1 byte), b, a, m (2 each)", and the strand. CR 5: "a job frame means setting 0"
unfoldable pub job_of : List ℕ → Settings
job_of v = settings (get_or v 0 0) (get_or v 1 0) (get_or v 2 0) (get_or v 3 0) (get_or v 4 0) 0

-- "the five numbers": first start, first end, second start, second end, weight
unfoldable pub entry_of : List ℕ → Entry
entry_of v =
    record { first = record { start = get_or v 0 0; end = get_or v 1 0 }; second = record { start = get_or v 2 0; end = get_or v 3 0 }; weight = get_or v 4 0 }

unfoldable pub entry_values : Entry → List ℕ
entry_values x = x.first.start ∷ x.first.end ∷ x.second.start ∷ x.second.end ∷ x.weight ∷ []

-- "listed, M, W (4 each), link total (8)"
unfoldable pub done_of : List ℕ → Done
done_of v = record { listed = get_or v 0 0; matches = get_or v 1 0; widest = get_or v 2 0; links = get_or v 3 0 }

unfoldable pub done_values : Done → List ℕ
done_values x = x.listed ∷ x.matches ∷ x.widest ∷ x.links ∷ []

-- "number, sequence (1 each), detail (4)"
unfoldable pub refused_of : List ℕ → Refused
refused_of v = record { number = get_or v 0 0; sequence = get_or v 1 0; detail = get_or v 2 0 }

unfoldable pub refused_values : Refused → List ℕ
refused_values x = x.number ∷ x.sequence ∷ x.detail ∷ []

-- ---- writing

-- the frame that is wanted: whether its values fit their fields, and its line
pub record Wanted : Type 0 where
  pub fits : Bool
  pub line : List ℕ

unfoldable pub job_wanted : List ℕ → Wanted
unfolding job_of job_fits job_line
job_wanted v = record { fits = job_fits (job_of v); line = job_line (job_of v) }

-- "02, 03 piece of the first, second sequence": the values are letter codes
unfoldable pub piece_wanted : ℕ → List ℕ → Wanted
unfolding codes_fit piece_line
piece_wanted kind v = record { fits = codes_fit v; line = cond (eqb kind 2) (piece_line 1 v) (piece_line 2 v) }

-- of another kind, or another count of values, there is no frame
unfoldable pub none_wanted : Wanted
none_wanted = record { fits = false; line = [] }

unfoldable pub frame_wanted : ℕ → List ℕ → Wanted
unfolding job_wanted piece_wanted none_wanted end_line entry_of entry_fits entry_line reverse_line done_of done_fits done_line refused_of refused_fits refused_line
frame_wanted kind v =
    cond (eqb kind 1 && eqb (length v) 5) (job_wanted v)
    (cond (eqb kind 2 || eqb kind 3) (piece_wanted kind v)
    (cond (eqb kind 4 && eqb (length v) 0) (record { fits = true; line = end_line })
    (cond (eqb kind 16 && eqb (length v) 5) (record { fits = entry_fits (entry_of v); line = entry_line (entry_of v) })
    (cond (eqb kind 17 && eqb (length v) 4) (record { fits = done_fits (done_of v); line = done_line (done_of v) })
    (cond (eqb kind 18 && eqb (length v) 5) (record { fits = entry_fits (entry_of v); line = reverse_line (entry_of v) })
    (cond (eqb kind 31 && eqb (length v) 3) (record { fits = refused_fits (refused_of v); line = refused_line (refused_of v) }) none_wanted))))))

unfoldable pub wanted_written : Wanted → List ℕ → Written
unfolding written
wanted_written w out = written w.fits w.line out

unfoldable pub wanted_left : Wanted → List ℕ → List ℕ
unfolding leaves
wanted_left w out = leaves w.fits w.line out

-- the length, or 4,294,967,296 plus the refusal number: a writer has no other than 27
unfoldable pub reply_of : Written → ℕ
reply_of w = cond (eqb w.number 0) w.length (4294967296 + 27)

unfoldable pub frame_reply : ℕ → List ℕ → List ℕ → ℕ
unfolding frame_wanted wanted_written reply_of
frame_reply kind v out = reply_of (wanted_written (frame_wanted kind v) out)

-- the slice afterwards
unfoldable pub frame_left : ℕ → List ℕ → List ℕ → List ℕ
unfolding frame_wanted wanted_left
frame_left kind v out = wanted_left (frame_wanted kind v) out

-- ---- reading

-- 0, or what is wrong with the line, and the values: five numbers, those that the kind does not have 0, "values 0" where the line is wrong
pub record FrameRead : Type 0 where
  pub number : ℕ
  pub values : List ℕ

unfoldable pub numbers_read : ℕ → List ℕ → FrameRead
unfolding then_zeros
numbers_read number values = record { number = number; values = then_zeros values 5 }

-- "Kinds 10, 11 and 1F have a reader of one line", and CR 1's 12. No other kind has one, so that asked for any other it gives 23
unfoldable pub read_frame : ℕ → List ℕ → FrameRead
unfolding numbers_read read_entry read_reverse read_done read_refused entry_values done_values refused_values
read_frame kind line =
    cond (eqb kind 16) (numbers_read (read_entry line).number (entry_values (read_entry line).entry))
    (cond (eqb kind 17) (numbers_read (read_done line).number (done_values (read_done line).done))
    (cond (eqb kind 18) (numbers_read (read_reverse line).number (entry_values (read_reverse line).entry))
    (cond (eqb kind 31) (numbers_read (read_refused line).number (refused_values (read_refused line).refused)) (numbers_read 23 []))))
