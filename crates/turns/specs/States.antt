-- What the reader's functions hand on: the grammar's progress, with the letters in the two lent buffers and their counts in the state. Assumes nothing.
use Rattle.std.specs.Prelude.{◌≡◌, cond, List, ℕ, zero, suc, ◌≤◌, eqb, length, take, drop, Result, Ok, Err}
use Rattle.lines.specs.declared.error.FrameError.{FrameError}
use Rattle.lines.specs.declared.error.FrameError.TheVariants.{WrongKind, OutOfTurn}
use Rattle.lines.specs.Errors.{number_in}
use Rattle.kinds.specs.declared.kind.Kind.{Kind}
use Rattle.kinds.specs.declared.kind.Kind.TheVariants as kind
use Rattle.turns.specs.declared.Turn.{Turn}
use Rattle.turns.specs.declared.Turn.TheVariants as turn
use Rattle.turns.specs.declared.State.{State}
use Rattle.turns.specs.Turns.{Progress, line_number, after}

-- the grammar's number of what may come next
abbrev pub turn_number : Turn → ℕ
turn_number turn.Job = 0
turn_number turn.First = 1
turn_number turn.Second = 2
turn_number turn.Ended = 3

-- and back: nothing comes past the end
abbrev pub turn_of : ℕ → Turn
turn_of zero = turn.Job
turn_of (suc zero) = turn.First
turn_of (suc (suc zero)) = turn.Second
turn_of (suc (suc (suc n))) = turn.Ended

-- what may come after a frame of a kind, or that the kind may not come
abbrev pub next_turn : Turn → Kind → Result Turn FrameError
next_turn turn.Job kind.Job = Ok turn.First
next_turn turn.First kind.FirstPiece = Ok turn.First
next_turn turn.First kind.SecondPiece = Ok turn.Second
next_turn turn.Second kind.SecondPiece = Ok turn.Second
next_turn turn.First kind.End = Ok turn.Ended
next_turn turn.Second kind.End = Ok turn.Ended
next_turn t kind.Job = Err OutOfTurn
next_turn t kind.FirstPiece = Err OutOfTurn
next_turn t kind.SecondPiece = Err OutOfTurn
next_turn t kind.End = Err OutOfTurn
next_turn t kind.Entry = Err WrongKind
next_turn t kind.Done = Err WrongKind
next_turn t kind.ReverseEntry = Err WrongKind
next_turn t kind.Refused = Err WrongKind

-- the state that a line leads to: where it is wrong, the one before it
abbrev pub reached : State → Result State FrameError → State
reached s (Ok r) = r
reached s (Err e) = s

-- the progress that a state and two buffers hold
unfoldable pub progress_of : State → List ℕ → List ℕ → Progress
progress_of s first second =
    record { turn = s.turn; settings = s.settings; first = take s.first first; second = take s.second second }

-- there is room for 16,384 letters of each sequence, and no more are held
pub record StateSafe (s : State) (first second : List ℕ) : Type 0 where
  pub first_room : 16384 ≤ length first
  pub second_room : 16384 ≤ length second
  pub first_most : s.first ≤ 16384
  pub second_most : s.second ≤ 16384

-- a line was read: what is wrong with it, and where nothing is, the progress after it; behind the letters the buffers are as they were
pub record LineTaken (line : List ℕ) (s : State) (first second : List ℕ) (r : Result State FrameError) (first-left second-left : List ℕ) : Type 0 where
  pub number : number_in r ≡ line_number (progress_of s first second) line
  pub progress : progress_of (reached s r) first-left second-left
      ≡ cond (eqb (line_number (progress_of s first second) line) 0) (after (progress_of s first second) line) (progress_of s first second)
  pub first_most : (reached s r).first ≤ 16384
  pub second_most : (reached s r).second ≤ 16384
  pub first_grows : s.first ≤ (reached s r).first
  pub second_grows : s.second ≤ (reached s r).second
  pub first_rest : drop (reached s r).first first-left ≡ drop (reached s r).first first
  pub second_rest : drop (reached s r).second second-left ≡ drop (reached s r).second second
