-- Document 01, "Frames": "Input: one job, any number of 02, any number of 03, one end.", and its refusals, "with sequence 0 and as detail the line
-- counted from 1; the first bad line decides". Assumes nothing.
use Rattle.std.specs.Prelude.{cond, List, [], ◌∷◌, ℕ, suc, eqb, length, Result, Ok, Err}
use Rattle.rules.specs.declared.Settings.{Settings}
use Rattle.rules.specs.Entered.{settings}
use Rattle.turns.specs.Turns.{Progress, line_number, after}
use Rattle.lines.specs.Errors.{number_of}
use Rattle.input.specs.declared.Input.{Input}
use Rattle.input.specs.declared.BadLine.{BadLine}
use Rattle.input.specs.Lines.{lines_of}

unfoldable pub no_settings : Settings
no_settings = settings 0 0 0 0 0 0

unfoldable pub nothing_yet : Progress
unfolding no_settings
nothing_yet = record { turn = 0; settings = no_settings; first = []; second = [] }

-- what the reader answers, by document 01's numbers: 0, the settings and how many letters each sequence has; or what is wrong and in which line
pub record InputRead : Type 0 where
  pub number : ℕ
  pub line : ℕ
  pub settings : Settings
  pub first : ℕ
  pub second : ℕ

-- what the reader answers, and the letters of both sequences that it has read
pub record Outcome : Type 0 where
  pub answer : InputRead
  pub first : List ℕ
  pub second : List ℕ

unfoldable pub refused_input : ℕ → ℕ → InputRead
unfolding no_settings
refused_input number line = record { number = number; line = line; settings = no_settings; first = 0; second = 0 }

-- what is read, or what is wrong, by these numbers
unfoldable pub input_read : Result Input BadLine → InputRead
unfolding refused_input
input_read (Ok r) = record { number = 0; line = 0; settings = r.settings; first = r.first; second = r.second }
input_read (Err b) = refused_input (number_of b.error) b.line

unfoldable pub stopped : ℕ → ℕ → Progress → Outcome
unfolding refused_input
stopped number line p = record { answer = refused_input number line; first = p.first; second = p.second }

-- 24: "or no end (then the line after the last)"
unfoldable pub finished : Progress → ℕ → Outcome
unfolding stopped
finished p count =
    cond (eqb p.turn 3)
    (record {
      answer = record { number = 0; line = 0; settings = p.settings; first = length p.first; second = length p.second };
      first = p.first;
      second = p.second;
    })
    (stopped 24 (suc count) p)

-- the lines that are left, behind so many
unfoldable pub read_lines : Progress → ℕ → List (List ℕ) → Outcome
unfolding finished line_number after stopped
read_lines p count [] = finished p count
read_lines p count (l ∷ ls) =
    let n = line_number p l in
    let r = read_lines (after p l) (suc count) ls in
    let s = stopped n (suc count) p in
    cond (eqb n 0) r s

unfoldable pub input_of : List ℕ → Outcome
unfolding read_lines nothing_yet lines_of
input_of input = read_lines nothing_yet 0 (lines_of input)
