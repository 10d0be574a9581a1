-- Document 01, "Frames": "Kinds 10, 11 and 1F have a reader of one line, which must be the whole slice: 20, 21, 22, 23 (another kind), 25, in that
-- order, with sequence, detail and values 0." CR 1: "Frame kind 12, with writer and reader", has one like kind 10's. Assumes nothing.
use Rattle.std.specs.Prelude.{cond, List, ℕ, eqb, Result, Ok, Err}
use Rattle.rules.specs.declared.Settings.{Settings}
use Rattle.rules.specs.Entered.{settings}
use Rattle.decoding.specs.Digits.{bytes_in}
use Rattle.kinds.specs.declared.Entry.{Entry}
use Rattle.kinds.specs.declared.Done.{Done}
use Rattle.kinds.specs.declared.Refused.{Refused}
use Rattle.lines.specs.declared.error.FrameError.{FrameError}
use Rattle.lines.specs.Errors.{number_of}
use Rattle.kinds.specs.Carried.{entry_in, done_in, refused_in}
use Rattle.payloads.specs.Numbers.{number_at}
use Rattle.payloads.specs.Lines.{kind_number}

-- ---- the values in a frame's bytes, where the payload stands from place 2 on

-- CR 1: "a job of 8 payload bytes ends with the strand", and one of 7 means strand 0
unfoldable pub strand_in : ℕ → List ℕ → ℕ
unfolding number_at
strand_in size bytes = cond (eqb size 8) (number_at bytes 9 1) 0

-- a job of so many payload bytes. CR 5: "a job frame means setting 0"
unfoldable pub job_in : ℕ → List ℕ → Settings
unfolding number_at strand_in
job_in size bytes =
    settings (number_at bytes 2 1) (number_at bytes 3 2) (number_at bytes 5 2) (number_at bytes 7 2) (strand_in size bytes) 0

-- ---- all values 0

unfoldable pub no_entry : Entry
no_entry = record { first = record { start = 0; end = 0 }; second = record { start = 0; end = 0 }; weight = 0 }

unfoldable pub no_done : Done
no_done = record { listed = 0; matches = 0; widest = 0; links = 0 }

unfoldable pub no_refused : Refused
no_refused = record { number = 0; sequence = 0; detail = 0 }

-- ---- what a reader answers

-- 0 and the values, or the number of what is wrong with the line and all values 0. The sequence and the detail are always 0.
pub record EntryRead : Type 0 where
  pub number : ℕ
  pub sequence : ℕ
  pub detail : ℕ
  pub entry : Entry

-- the same of a done frame
pub record DoneRead : Type 0 where
  pub number : ℕ
  pub sequence : ℕ
  pub detail : ℕ
  pub done : Done

-- the same of a refused frame, whose own number, sequence and detail are among its values
pub record RefusedRead : Type 0 where
  pub number : ℕ
  pub sequence : ℕ
  pub detail : ℕ
  pub refused : Refused

-- the values that are read, or what is wrong, by document 01's numbers
abbrev pub entry_numbered : Result Entry FrameError → EntryRead
entry_numbered (Ok x) = record { number = 0; sequence = 0; detail = 0; entry = x }
entry_numbered (Err e) = record { number = number_of e; sequence = 0; detail = 0; entry = no_entry }

abbrev pub done_numbered : Result Done FrameError → DoneRead
done_numbered (Ok x) = record { number = 0; sequence = 0; detail = 0; done = x }
done_numbered (Err e) = record { number = number_of e; sequence = 0; detail = 0; done = no_done }

abbrev pub refused_numbered : Result Refused FrameError → RefusedRead
refused_numbered (Ok x) = record { number = 0; sequence = 0; detail = 0; refused = x }
refused_numbered (Err e) = record { number = number_of e; sequence = 0; detail = 0; refused = no_refused }

-- an entry of a kind: 10 is a forward one, 12 a reverse one
unfoldable pub read_entry_of : ℕ → List ℕ → EntryRead
unfolding kind_number bytes_in entry_in no_entry
read_entry_of kind line =
    let n = kind_number kind 10 line in
    record { number = n; sequence = 0; detail = 0; entry = cond (eqb n 0) (entry_in (bytes_in line)) no_entry }

unfoldable pub read_entry : List ℕ → EntryRead
unfolding read_entry_of
read_entry line = read_entry_of 16 line

unfoldable pub read_reverse : List ℕ → EntryRead
unfolding read_entry_of
read_reverse line = read_entry_of 18 line

unfoldable pub read_done : List ℕ → DoneRead
unfolding kind_number bytes_in done_in no_done
read_done line =
    let n = kind_number 17 20 line in
    record { number = n; sequence = 0; detail = 0; done = cond (eqb n 0) (done_in (bytes_in line)) no_done }

unfoldable pub read_refused : List ℕ → RefusedRead
unfolding kind_number bytes_in refused_in no_refused
read_refused line =
    let n = kind_number 31 6 line in
    record { number = n; sequence = 0; detail = 0; refused = cond (eqb n 0) (refused_in (bytes_in line)) no_refused }
