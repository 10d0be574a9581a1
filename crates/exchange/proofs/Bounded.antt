-- The numbers of an input's refusal fit their fields: the number is 20 to 26, and the line is found within the first 300,000 bytes. Assumes nothing.
use mathlib.Core.Path.{◌≡◌, refl, sym, ap, subst, ◌∙◌}
use mathlib.Core.Bool.{Bool, true, false, cond}
use mathlib.Core.List.{List, [], ◌∷◌}
use Prim.Native.Nat.{ℕ, suc, ◌+◌, ◌%◌, ◌≤◌, ◌<◌}
use native.Mathlib.Omega.{arith}
use borrow.Author.Tests.{lt-ltb, lt-leb, le-leb, eqb-false, eq-eqb, ne_eqb}
use lib.Dec.{eqb, leb}
use lib.ListN.{length, get_or, take, drop, length-take, length-append}
use lib.Seq.{take_at}
use Rattle.decoding.specs.Digits.{is_line, bytes_in}
use Rattle.lines.specs.Writing.{byte_sum, in_front}
use Rattle.decoding.specs.Reading.{Frame, refused_frame, frame_from, frame_in}
use Rattle.kinds.specs.Kinds.{refused_fits, refused_line}
use Rattle.payloads.specs.Pieces.{codes_in}
use Rattle.pieces.specs.Letters.{is_piece, piece_number}
use Rattle.input.specs.Lines.{add_to, lines_of}
use Rattle.turns.specs.Turns.{Progress, known_kind, in_turn, frame_number, payload_in, job_size, size_number, payload_number, line_number, after}
use Rattle.input.specs.Grammar.{InputRead, Outcome, nothing_yet, refused_input, stopped, finished, read_lines, input_of}
use Rattle.input.proofs.Cutting.{cut}
use Rattle.output.specs.Output.{job_output}
use Rattle.exchange.specs.Whole.{input_refusal, output_of, output_length, output_left}

-- one of two small numbers
either : (t : Bool) (x y : ℕ) → x ≤ 26 → y ≤ 26 → cond t x y ≤ 26
either true x y a b = a
either false x y a b = b

either_frame : (t : Bool) (x y : Frame) → x.number ≤ 26 → y.number ≤ 26 → (cond t x y).number ≤ 26
either_frame true x y a b = a
either_frame false x y a b = b

frame_small : (line : List ℕ) → (frame_in line).number ≤ 26
unfolding frame_in frame_from refused_frame
frame_small line =
    let bytes = bytes_in line in
    either_frame (is_line line) (frame_from bytes) (refused_frame 20)
    (either_frame (eqb (get_or bytes 1 0 + 3) (length bytes))
    (cond (eqb (byte_sum bytes % 256) 0) (record { number = 0; kind = get_or bytes 0 0; size = get_or bytes 1 0 }) (refused_frame 22)) (refused_frame 21)
    (either_frame (eqb (byte_sum bytes % 256) 0) (record { number = 0; kind = get_or bytes 0 0; size = get_or bytes 1 0 }) (refused_frame 22)
    (omega arith) (omega arith))
    (omega arith))
    (omega arith)

piece_small : (payload : List ℕ) (count : ℕ) → piece_number payload count ≤ 26
unfolding piece_number
piece_small payload count =
    let fits = leb (count + length (codes_in payload)) 16384 in
    either (is_piece payload) (cond fits 0 26) 25 (either fits 0 26 (omega arith) (omega arith)) (omega arith)

size_small : (right : Bool) → size_number right ≤ 26
unfolding size_number
size_small right = either right 0 25 (omega arith) (omega arith)

payload_small : (p : Progress) (kind : ℕ) (payload : List ℕ) → payload_number p kind payload ≤ 26
unfolding payload_number
payload_small p kind payload =
    let job = size_number (job_size (length payload)) in
    let first = piece_number payload (length p.first) in
    let second = piece_number payload (length p.second) in
    let end = size_number (eqb (length payload) 0) in
    either (eqb kind 1) job (cond (eqb kind 2) first (cond (eqb kind 3) second end)) (size_small (job_size (length payload)))
    (either (eqb kind 2) first (cond (eqb kind 3) second end) (piece_small payload (length p.first))
    (either (eqb kind 3) second end (piece_small payload (length p.second)) (size_small (eqb (length payload) 0))))

turn_small : (turn : ℕ) (f : Frame) → f.number ≤ 26 → frame_number turn f ≤ 26
unfolding frame_number
turn_small turn f h =
    let rest = cond {A = ℕ} (in_turn turn f.kind) 0 24 in
    either (eqb f.number 0) (cond (known_kind f.kind) rest 23) f.number
    (either (known_kind f.kind) rest 23 (either (in_turn turn f.kind) 0 24 (omega arith) (omega arith)) (omega arith)) h

-- what is wrong with a line is at most 26
number_small : (p : Progress) (line : List ℕ) → line_number p line ≤ 26
unfolding line_number
number_small p line =
    let n = frame_number p.turn (frame_in line) in
    either (eqb n 0) (payload_number p (frame_in line).kind (payload_in line)) n (payload_small p (frame_in line).kind (payload_in line))
    (turn_small p.turn (frame_in line) (frame_small line))

-- what is known of an answer
record Known (o : Outcome) (most : ℕ) : Type 0 where
  number : o.answer.number ≤ 26
  line : o.answer.line ≤ most
  first : o.answer.number ≡ 0 → o.answer.first ≡ length o.first
  second : o.answer.number ≡ 0 → o.answer.second ≡ length o.second

known_stop : (n line most : ℕ) (p : Progress) → n ≤ 26 → (n ≡ 0 → ⊥) → line ≤ most → Known (stopped n line p) most
unfolding stopped refused_input
known_stop n line most p a h b = record { number = a; line = b; first = λ z. absurd (h z); second = λ z. absurd (h z) }

known_end : (p : Progress) (count most : ℕ) → suc count ≤ most → Known (finished p count) most
unfolding finished
known_end p count most h = go (eqb p.turn 3)
  where
    go : (t : Bool) → Known (cond t
        (record {
          answer = record { number = 0; line = 0; settings = p.settings; first = length p.first; second = length p.second };
          first = p.first;
          second = p.second;
        }) (stopped 24 (suc count) p)) most
    go true = record { number = omega arith; line = omega arith; first = λ _. refl; second = λ _. refl }
    go false = known_stop 24 (suc count) most p (omega arith) (λ z. omega arith) h

known : (p : Progress) (count most : ℕ) (ls : List (List ℕ)) → suc (count + length ls) ≤ most → Known (read_lines p count ls) most
unfolding read_lines
known p count most [] h = known_end p count most (omega arith)
known p count most (l ∷ ls) h = go (eqb (line_number p l) 0) refl (known (after p l) (suc count) most ls (omega arith))
  where
    go : (t : Bool) → eqb (line_number p l) 0 ≡ t → Known (read_lines (after p l) (suc count) ls) most
        → Known (cond t (read_lines (after p l) (suc count) ls) (stopped (line_number p l) (suc count) p)) most
    go true e ih = ih
    go false e ih = known_stop (line_number p l) (suc count) most p (number_small p l) (eqb-false (line_number p l) 0 e) (omega arith)

-- no more lines than bytes
more_lines : (b : ℕ) (ls : List (List ℕ)) → length (add_to b ls) ≤ suc (length ls)
unfolding add_to
more_lines b [] = omega arith
more_lines b (l ∷ ls) = omega arith

lines_few : (s : List ℕ) → length (lines_of s) ≤ length s
unfolding lines_of
lines_few [] = omega arith
lines_few (b ∷ bs) = go (eqb b 10) (lines_few bs)
  where
    go : (t : Bool) → length (lines_of bs) ≤ length bs → length (cond t ((b ∷ []) ∷ lines_of bs) (add_to b (lines_of bs))) ≤ suc (length bs)
    go true h = omega arith
    go false h = omega (arith, more_lines b (lines_of bs))

known_input : (input : List ℕ) → Known (input_of input) 300001
unfolding input_of
known_input input =
    subst (λ (o : Outcome). Known o 300001) (cut input)
    (known nothing_yet 0 300001 (lines_of (take 300000 input)) (omega (arith, lines_few (take 300000 input), length-take 300000 input)))

-- the numbers of the refused frame fit
pub refusal_fits : (input : List ℕ) (r : InputRead) → r ≡ (input_of input).answer → refused_fits (input_refusal r) ≡ true
unfolding refused_fits input_refusal
refusal_fits input r e =
    let k = known_input input in
    let n = k.number in
    let l = k.line in
    let en = ap (λ (x : InputRead). x.number) e in
    let el = ap (λ (x : InputRead). x.line) e in
    rw (lt-ltb r.number 256 (omega arith), lt-ltb r.line 4294967296 (omega arith))

-- where nothing is wrong, the letters are counted
module _ (input : List ℕ) (r : InputRead) (e : r ≡ (input_of input).answer) (z : r.number ≡ 0) where
  none : (input_of input).answer.number ≡ 0
  none = sym (ap (λ (x : InputRead). x.number) e) ∙ z

  pub first_count : r.first ≡ length (input_of input).first
  first_count = ap (λ (x : InputRead). x.first) e ∙ (known_input input).first none

  pub second_count : r.second ≡ length (input_of input).second
  second_count = ap (λ (x : InputRead). x.second) e ∙ (known_input input).second none

-- ---- letters in front of a buffer

pub front_fits : (n : ℕ) (letters old left : List ℕ) → n ≡ length letters → left ≡ in_front letters old → n ≤ length left
unfolding in_front
front_fits n letters old left e f = omega (arith, ap length f, length-append letters (drop (length letters) old))

pub front_letters : (n : ℕ) (letters old left : List ℕ) → n ≡ length letters → left ≡ in_front letters old → take n left ≡ letters
unfolding in_front
front_letters n letters old left e f = ap (take n) f ∙ take_at letters (drop (length letters) old) n (sym e)

-- ---- the output

taken : (n : ℕ) (x y : List ℕ) → n ≡ 0 → cond (eqb n 0) x y ≡ x
taken n x y e = rw (eq-eqb n 0 e)

not_taken : (n : ℕ) (x y : List ℕ) → (n ≡ 0 → ⊥) → cond (eqb n 0) x y ≡ y
not_taken n x y h = rw (ne_eqb n 0 h)

module _ (input output left : List ℕ) (n : ℕ) where
  pub short_output : length output < 9038 → (0 ≡ output_length input output) × (output ≡ output_left input output)
  unfolding output_length output_left
  short_output h = (rw (lt-leb 9038 (length output) h), rw (lt-leb 9038 (length output) h))

  pub long_output : (lines : List ℕ) → 9038 ≤ length output → lines ≡ output_of input → n ≡ length lines → left ≡ in_front lines output
      → (n ≡ output_length input output) × (left ≡ output_left input output)
  unfolding output_length output_left
  long_output lines h e a b =
      (rw (le-leb 9038 (length output) h) (a ∙ ap length e), rw (le-leb 9038 (length output) h) (b ∙ ap (λ (l : List ℕ). in_front l output) e))

  pub refused_lines : (r : InputRead) → r ≡ (input_of input).answer → (r.number ≡ 0 → ⊥) → refused_line (input_refusal r) ≡ output_of input
  unfolding output_of
  refused_lines r e h = ap (λ (x : InputRead). refused_line (input_refusal x)) e
      ∙ sym (not_taken (input_of input).answer.number _ _ (λ z. h (ap (λ (x : InputRead). x.number) e ∙ z)))

  pub job_lines : (r : InputRead) (first second : List ℕ) → r ≡ (input_of input).answer → r.number ≡ 0 → first ≡ (input_of input).first
      → second ≡ (input_of input).second
      → job_output r.settings first second ≡ output_of input
  unfolding output_of
  job_lines r first second e z f g =
      ap (λ (x : InputRead). job_output x.settings first second) e
      ∙ ap (λ (l : List ℕ). job_output (input_of input).answer.settings l second) f
      ∙ ap (λ (l : List ℕ). job_output (input_of input).answer.settings (input_of input).first l) g
      ∙ sym (taken (input_of input).answer.number _ _ (sym (ap (λ (x : InputRead). x.number) e) ∙ z))

front_inside : (text output left : List ℕ) (n : ℕ) → n ≡ length text → left ≡ in_front text output → n ≤ length left
unfolding in_front
front_inside text output left n e f = omega (arith, ap length f, length-append text (drop (length text) output))

-- what was written lies within the slice
pub written_inside : (input output left : List ℕ) (n : ℕ) → n ≡ output_length input output → left ≡ output_left input output → n ≤ length left
unfolding output_length output_left
written_inside input output left n e f = go (leb 9038 (length output)) e f
  where
    go : (t : Bool) → n ≡ cond t (length (output_of input)) 0 → left ≡ cond t (in_front (output_of input) output) output → n ≤ length left
    go true a b = front_inside (output_of input) output left n a b
    go false a b = omega arith
