-- Document 01, "Frames": 20 to 22, the refusals that look at one line alone. Assumes nothing.
use Rattle.std.specs.Prelude.{ℕ, ◌+◌, ◌%◌, cond, List, length, ◌==◌, slice_index, Result, Ok, Err}
use Rattle.std.proofs.lemmas.List.Edits.{sets}
use Rattle.decoding.specs.declared.Frame as declared
use Rattle.lines.specs.declared.error.FrameError.{FrameError}
use Rattle.lines.specs.Errors.{number_of}
use Rattle.decoding.specs.Digits.{is_line, bytes_in}
use Rattle.lines.specs.Writing.{byte_sum}

-- what a line holds, by document 01's numbers: 0, its kind and how many bytes of payload; or the number of what is wrong with it
pub record Frame : Type 0 where
  pub number : ℕ
  pub kind : ℕ
  pub size : ℕ

unfoldable pub refused_frame : ℕ → Frame
refused_frame number = record { number = number; kind = 0; size = 0 }

-- the kind and the size that are read, or what is wrong, by these numbers
abbrev pub numbered_frame : Result declared.Frame FrameError → Frame
numbered_frame (Ok f) = record { number = 0; kind = f.kind; size = f.size }
numbered_frame (Err e) = refused_frame (number_of e)

-- "21: length byte is not the line's count of bytes less 3. 22: check wrong."
unfoldable pub frame_from : List ℕ → Frame
unfolding refused_frame byte_sum
frame_from bytes =
    cond (slice_index bytes 1 + 3 == length bytes)
    (cond (byte_sum bytes % 256 == 0) (record { number = 0; kind = slice_index bytes 0; size = slice_index bytes 1 }) (refused_frame 22))
    (refused_frame 21)

-- "20: not an even count of 6 to 134 capital hex digits closed by a line feed.", and then the rest
unfoldable pub frame_in : List ℕ → Frame
unfolding is_line bytes_in frame_from refused_frame
frame_in line = cond (is_line line) (frame_from (bytes_in line)) (refused_frame 20)

-- what a reader of the line leaves of lent bytes: the line's in front, or, where it is no line, what was there
unfoldable pub bytes_left : List ℕ → List ℕ → List ℕ
unfolding is_line bytes_in
bytes_left line old = cond (is_line line) (sets old 0 (bytes_in line)) old
