-- The input read line by line: what the lines so far have said, and the lines ahead, make the answer. Assumes nothing.
use Rattle.std.proofs.Common.{◌≡◌, ℕ, suc, ◌+◌, ◌-◌, ◌<◌, ◌≤◌, false, cond, eqb, List, ◌++◌, length, take, drop, refl, sym, ap, ◌∙◌, arith, eq-eqb, ne_eqb, Result, Ok, Err, MatchResult}
use lib.ListN.{take-append-drop}
use lib.Seq.{length-take-le, drop-drop}
use Rattle.lines.specs.declared.error.FrameError.{FrameError}
use Rattle.lines.specs.declared.error.FrameError.TheVariants.{OutOfTurn}
use Rattle.lines.specs.Errors.{number_of, number_in}
use Rattle.lines.specs.Writing.{in_front}
use Rattle.turns.specs.declared.State.{State}
use Rattle.turns.specs.Turns.{Progress, line_number, after}
use Rattle.turns.specs.States.{reached, progress_of, StateSafe, LineTaken}
use Rattle.turns.proofs.Taking.{some_number}
use Rattle.input.specs.declared.Input.{Input}
use Rattle.input.specs.declared.BadLine.{BadLine}
use Rattle.input.specs.Lines.{lines_of}
use Rattle.input.specs.Grammar.{no_settings, nothing_yet, input_read, stopped, finished, read_lines, input_of}
use Rattle.input.proofs.Lines.{Cut, empty, cut_lines, cut_shorter}

-- the first n of a list whose others are as they were
front_is : (n : ℕ) (xs old : List ℕ) → n ≤ length xs → drop n xs ≡ drop n old → xs ≡ in_front (take n xs) old
unfolding in_front
front_is n xs old h e = sym (take-append-drop n xs) ∙ rw (length-take-le n xs h) (ap (λ (l : List ℕ). take n xs ++ l) e)

-- more of two lists that agree behind
drop_more : (n m : ℕ) (xs ys : List ℕ) → n ≤ m → drop n xs ≡ drop n ys → drop m xs ≡ drop m ys
drop_more n m xs ys h e =
    let k : n + (m - n) ≡ m = omega arith in
    sym (drop-drop (m - n) n xs ∙ ap (λ (i : ℕ). drop i xs) k) ∙ ap (drop (m - n)) e ∙ drop-drop (m - n) n ys ∙ ap (λ (i : ℕ). drop i ys) k

-- so many lines are read, and none was wrong; the one that comes next is counted from 1
pub record Reading (input before-first before-second : List ℕ) (s : State) (rest : List ℕ) (line : ℕ) (first second : List ℕ) : Type 0 where
  pub passed : ℕ
  pub counted : line ≡ suc passed
  pub within : passed + length rest ≤ length input
  pub first_long : length first ≡ length before-first
  pub second_long : length second ≡ length before-second
  pub first_most : s.first ≤ 16384
  pub second_most : s.second ≤ 16384
  pub first_rest : drop s.first first ≡ drop s.first before-first
  pub second_rest : drop s.second second ≡ drop s.second before-second
  pub ahead : input_of input ≡ read_lines (progress_of s first second) passed (lines_of rest)

pub reading_start : {input first second : List ℕ} → Reading input first second (record { turn = 0; settings = record { k = 0; b = 0; a = 0; m = 0; strand = 0; mask = 0 }; first = 0; second = 0 }) input 1 first second
unfolding input_of nothing_yet no_settings progress_of
reading_start = record {
  passed = 0;
  counted = refl;
  within = omega arith;
  first_long = refl;
  second_long = refl;
  first_most = omega arith;
  second_most = omega arith;
  first_rest = refl;
  second_rest = refl;
  ahead = refl;
}

module _ {input before-first before-second : List ℕ} {s : State} {rest : List ℕ} {line : ℕ} {first second : List ℕ} (first_room : 16384 ≤ length before-first)
    (second_room : 16384 ≤ length before-second) (r : Reading input before-first before-second s rest line first second) where
  -- what is promised of the answer and of both buffers
  abbrev pub Answered : Result Input BadLine → List ℕ → List ℕ → Type 0
  Answered a first-left second-left =
      (input_read a ≡ (input_of input).answer) × (first-left ≡ in_front (input_of input).first before-first)
      × (second-left ≡ in_front (input_of input).second before-second)

  pub safe : StateSafe s first second
  safe = record {
    first_room = omega (arith, r.first_long);
    second_room = omega (arith, r.second_long);
    first_most = r.first_most;
    second_most = r.second_most;
  }

  -- all lines were good and an end was among them, or none
  module _ (e : length rest ≡ 0) where
    end_of : input_of input ≡ finished (progress_of s first second) r.passed
    unfolding read_lines lines_of
    end_of = r.ahead ∙ rw (empty rest e)

    here_first : first ≡ in_front (take s.first first) before-first
    here_first = front_is s.first first before-first (omega (arith, r.first_most, r.first_long)) r.first_rest

    here_second : second ≡ in_front (take s.second second) before-second
    here_second = front_is s.second second before-second (omega (arith, r.second_most, r.second_long)) r.second_rest

    pub no_end : (s.turn ≡ 3 → ⊥) → Answered (Err (record { line = line; error = OutOfTurn })) first second
    unfolding finished stopped progress_of input_read
    no_end n = rw (end_of, ne_eqb (s.turn) 3 n) (rw r.counted, here_first, here_second)

    pub has_end : s.turn ≡ 3 → Answered (Ok (record { settings = s.settings; first = s.first; second = s.second })) first second
    unfolding finished progress_of input_read
    has_end t =
        let f = length-take-le s.first first (omega (arith, r.first_most, r.first_long)) in
        let g = length-take-le s.second second (omega (arith, r.second_most, r.second_long)) in
        rw (end_of, eq-eqb (s.turn) 3 t) (rw (f, g), here_first, here_second)

  -- one line more
  module _ {this next : List ℕ} (some : 0 < length rest) (cut : Cut rest this next) {t : Result State FrameError}
      {first-left second-left : List ℕ} (first-same : length first-left ≡ length first) (second-same : length second-left ≡ length second)
      (taken : LineTaken this s first second t first-left second-left) where
    abbrev here : Progress
    here = progress_of s first second

    abbrev there : State
    there = reached s t

    turn_of : input_of input
        ≡ cond (eqb (line_number here this) 0) (read_lines (after here this) (suc r.passed) (lines_of next))
        (stopped (line_number here this) (suc r.passed) here)
    unfolding read_lines
    turn_of = r.ahead ∙ rw (cut_lines some cut)

    rest_first : drop there.first first-left ≡ drop there.first before-first
    rest_first = taken.first_rest ∙ drop_more s.first there.first first before-first taken.first_grows r.first_rest

    rest_second : drop there.second second-left ≡ drop there.second before-second
    rest_second = taken.second_rest ∙ drop_more s.second there.second second before-second taken.second_grows r.second_rest

    reading_on : number_in t ≡ 0 → Reading input before-first before-second there next (line + 1) first-left second-left
    reading_on z =
        let n : line_number here this ≡ 0 = sym taken.number ∙ z in
        let p : progress_of there first-left second-left ≡ after here this = taken.progress ∙ rw n in
        record {
          passed = suc r.passed;
          counted = omega (arith, r.counted);
          within = omega (arith, r.within, cut_shorter some cut);
          first_long = first-same ∙ r.first_long;
          second_long = second-same ∙ r.second_long;
          first_most = taken.first_most;
          second_most = taken.second_most;
          first_rest = rest_first;
          second_rest = rest_second;
          ahead = turn_of ∙ rw (n, p);
        }

    stopped_at : (e : FrameError) → number_in t ≡ number_of e
        → input_of input ≡ stopped (number_of e) (suc r.passed) (progress_of there first-left second-left)
    stopped_at e q =
        let m : line_number here this ≡ number_of e = sym taken.number ∙ q in
        let w : eqb (line_number here this) 0 ≡ false = rw m (ne_eqb (number_of e) 0 (some_number e)) in
        let p : progress_of there first-left second-left ≡ here = taken.progress ∙ rw w in
        turn_of ∙ rw (w, m, p)

    stopped_on : (e : FrameError) → number_in t ≡ number_of e → Answered (Err (record { line = line; error = e })) first-left second-left
    unfolding stopped progress_of input_read
    stopped_on e q =
        let f = front_is there.first first-left before-first (omega (arith, taken.first_most, r.first_long)) rest_first in
        let g = front_is there.second second-left before-second (omega (arith, taken.second_most, r.second_long)) rest_second in
        rw (stopped_at e q) (rw r.counted, f, g)

  module _ {this next : List ℕ} (some : 0 < length rest) (cut : Cut rest this next)
      {first-left second-left : List ℕ} (first-same : length first-left ≡ length first) (second-same : length second-left ≡ length second) where
    pub reading_next : {t : State} → LineTaken this s first second (Ok t) first-left second-left → Reading input before-first before-second t next (line + 1) first-left second-left
    reading_next taken = reading_on some cut first-same second-same taken refl

    pub stops : {e : FrameError} → LineTaken this s first second (Err e) first-left second-left → Answered (Err (record { line = line; error = e })) first-left second-left
    stops {e} taken = stopped_on some cut first-same second-same taken e refl

-- a line was taken, or its error is told with its number
pub went_on : (r : Result State FrameError) (t : State) → MatchResult r (λ x. ◌≡◌ {A = Result State BadLine} (Ok t) (Ok x)) (λ _. ⊥) → r ≡ Ok t
went_on (Ok x) t h = cc
went_on (Err e) t h = absurd h

pub went_wrong : (r : Result State FrameError) (b : BadLine) (line : ℕ) (P : FrameError → Type 0) → ((e : FrameError) → P e → b ≡ record { line = line; error = e })
    → MatchResult r (λ x. ◌≡◌ {A = Result State BadLine} (Err b) (Ok x)) P
    → (e : FrameError) × (r ≡ Err e) × (b ≡ record { line = line; error = e })
went_wrong (Ok x) b line P of h = absurd (differ b x h)
  where
    differ : (b : BadLine) (x : State) → ◌≡◌ {A = Result State BadLine} (Err b) (Ok x) → ⊥
    differ b x h = cc
went_wrong (Err e) b line P of h = (e, refl, of e h)
