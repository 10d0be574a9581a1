-- What stands after the first 300,000 bytes of an input changes nothing: each good line is paid for by its letters, at most 9 bytes a letter, so the
-- first line that is bad or too long to be a line begins within the first 294,942. Assumes nothing.
use mathlib.Core.Path.{◌≡◌, refl, sym, ap, ◌∙◌}
use mathlib.Core.Bool.{Bool, true, false, cond, ◌||◌}
use mathlib.Core.List.{List, [], ◌∷◌}
use Prim.Native.Nat.{ℕ, zero, suc, ◌+◌, ◌-◌, ◌*◌, ◌<◌, ◌≤◌, min}
use native.Mathlib.Nat.{le_of_suc-le-suc}
use native.Mathlib.Omega.{arith}
use lib.Dec.{eqb, leb}
use lib.ListN.{length, take, drop, length-append, length-take, length-drop, length-map}
use lib.Seq.{take-nil, take-take, length-take-le}
use borrow.Author.Tests.{eqb-true, eqb-false, leb-true, leb-false}
use Rattle.rules.specs.Letters.{letter_of}
use Rattle.decoding.specs.Digits.{is_line}
use Rattle.decoding.specs.Reading.{refused_frame, frame_in}
use Rattle.decoding.proofs.Decoding.{line_parts, bytes_length}
use Rattle.decoding.proofs.Frames.{frame_read}
use Rattle.payloads.specs.Pieces.{codes_in}
use Rattle.pieces.specs.Letters.{is_piece, piece_number, letters_in}
use Rattle.input.specs.Lines.{lines_of, line_size}
use Rattle.turns.specs.Turns.{Progress, in_turn, frame_number, payload_in, job_size, payload_number, line_number, after}
use Rattle.input.specs.Grammar.{nothing_yet, stopped, read_lines, input_of}
use Rattle.input.proofs.Lines.{size_some, first_line}
use Rattle.pieces.proofs.Unpacking.{piece_parts, count_least}
use Rattle.pieces.proofs.Pieces.{few_letters}
use Rattle.turns.proofs.Numbering.{InItsTurn, in_turn_parts}
use Rattle.turns.proofs.Taking.{payload_size, frame_size, JobSized, seven, eight, job_sized, size_right}

-- ---- lines of an input that is cut

size_le : (s : List ℕ) → line_size s ≤ length s
unfolding line_size
size_le [] = omega arith
size_le (b ∷ bs) = go (eqb b 10) (size_le bs)
  where
    go : (t : Bool) → line_size bs ≤ length bs → cond t 1 (suc (line_size bs)) ≤ suc (length bs)
    go true h = omega arith
    go false h = omega arith

-- a line that ends before the cut is as long as it was
size_whole : (m : ℕ) (s : List ℕ) → line_size s ≤ m → line_size (take m s) ≡ line_size s
unfolding line_size
size_whole m [] h = ap line_size (take-nil m)
size_whole zero (b ∷ bs) h = absurd (omega (arith, size_some (b ∷ bs) (omega arith)))
size_whole (suc m) (b ∷ bs) h = go (eqb b 10) refl (size_whole m bs)
  where
    go : (t : Bool) → eqb b 10 ≡ t → (line_size bs ≤ m → line_size (take m bs) ≡ line_size bs)
        → cond (eqb b 10) 1 (suc (line_size (take m bs))) ≡ cond (eqb b 10) 1 (suc (line_size bs))
    go true e ih = rw e
    go false e ih = rw e (ap suc (ih (le_of_suc-le-suc (rw e at h))))

-- a line that goes on behind it ends with it
size_cut : (m : ℕ) (s : List ℕ) → m ≤ line_size s → line_size (take m s) ≡ m
unfolding line_size
size_cut zero s h = refl
size_cut (suc m) [] h = absurd (omega arith)
size_cut (suc m) (b ∷ bs) h = go (eqb b 10) refl (size_cut m bs)
  where
    go : (t : Bool) → eqb b 10 ≡ t → (m ≤ line_size bs → line_size (take m bs) ≡ m) → cond (eqb b 10) 1 (suc (line_size (take m bs))) ≡ suc m
    go true e ih = let k = rw e at h in rw e (omega arith)
    go false e ih = rw e (ap suc (ih (le_of_suc-le-suc (rw e at h))))

drop_take : (k m : ℕ) (s : List ℕ) → k ≤ m → drop k (take m s) ≡ take (m - k) (drop k s)
drop_take zero m s h = let e : m ≡ m - 0 = omega arith in ap (λ (n : ℕ). take n s) e
drop_take (suc k) zero s h = absurd (omega arith)
drop_take (suc k) (suc m) [] h = sym (take-nil (suc m - suc k))
drop_take (suc k) (suc m) (b ∷ bs) h =
    let e : suc m - suc k ≡ m - k = omega arith in
    drop_take k m bs (le_of_suc-le-suc h) ∙ rw e

-- ---- what a good line takes

-- no more letters than there may be
record Small (p : Progress) : Type 0 where
  first : length p.first ≤ 16384
  second : length p.second ≤ 16384

-- the bytes of all good lines that may still come: a job of 21 or 23, an end of 7, and 9 for each letter
unfoldable needs : Progress → ℕ
needs p =
    let pieces = 9 * (32768 - (length p.first + length p.second)) in
    cond (eqb p.turn 0) (30 + pieces) (cond (eqb p.turn 3) 0 (7 + pieces))

record Step (p : Progress) (l : List ℕ) : Type 0 where
  paid : needs (after p l) + length l ≤ needs p
  small : Small (after p l)

-- nothing is wrong with a line
record Good (p : Progress) (l : List ℕ) : Type 0 where
  turn : InItsTurn p.turn (frame_in l)
  right : payload_number p (frame_in l).kind (payload_in l) ≡ 0
  long : length l ≡ 2 * length (payload_in l) + 7

good : (p : Progress) (l : List ℕ) → line_number p l ≡ 0 → Good p l
unfolding line_number
good p l z = go (eqb (frame_number p.turn (frame_in l)) 0) refl
  where
    go : (t : Bool) → eqb (frame_number p.turn (frame_in l)) 0 ≡ t → Good p l
    go false e = absurd (eqb-false (frame_number p.turn (frame_in l)) 0 e (rw e at z))
    go true e =
        let t = in_turn_parts p.turn (frame_in l) (eqb-true (frame_number p.turn (frame_in l)) 0 e) in
        let f = frame_read l t.frame in
        record {
          turn = t;
          right = rw e at z;
          long = omega (arith, payload_size l f, frame_size l f, bytes_length l (line_parts l f.ok).ends);
        }

-- a job has at most 8 bytes
job_most : {size : ℕ} → JobSized size → size ≤ 8
job_most (seven e) = omega arith
job_most (eight e) = omega arith

-- a piece has a letter for each 9 bytes of its line
piece_pays : (payload : List ℕ) (count : ℕ) → piece_number payload count ≡ 0 → 2 * length payload + 7 ≤ 9 * length (codes_in payload)
unfolding piece_number
piece_pays payload count z = go (is_piece payload) refl
  where
    go : (t : Bool) → is_piece payload ≡ t → 2 * length payload + 7 ≤ 9 * length (codes_in payload)
    go true e = omega (arith, (piece_parts payload e).least, count_least payload)
    go false e = let w = rw e at z in absurd (omega arith)

-- the turns of pieces
either : (t : ℕ) → eqb t 1 || eqb t 2 ≡ true → (eqb t 0 ≡ false) × (eqb t 3 ≡ false)
either t h = go (eqb t 1) refl h
  where
    go : (b : Bool) → eqb t 1 ≡ b → b || eqb t 2 ≡ true → (eqb t 0 ≡ false) × (eqb t 3 ≡ false)
    go true e k = let z = eqb-true t 1 e in rw z (refl, refl)
    go false e k = let z = eqb-true t 2 k in rw z (refl, refl)

module _ (p : Progress) (l : List ℕ) (sm : Small p) (g : Good p l) where
  payload : List ℕ
  payload = payload_in l

  count : length (letters_in payload) ≡ length (codes_in payload)
  unfolding letters_in
  count = length-map (codes_in payload) letter_of

  job_step : (frame_in l).kind ≡ 1 → Step p l
  unfolding payload_number in_turn after needs
  job_step k =
      let t : p.turn ≡ 0 = eqb-true p.turn 0 (rw k at g.turn.turns) in
      let n = job_most (job_sized (length (payload_in l)) (size_right (job_size (length (payload_in l))) (rw k at g.right))) in
      record {
        paid = rw (k, t) (omega (arith, g.long));
        small = rw k record { first = sm.first; second = sm.second };
      }

  first_step : (frame_in l).kind ≡ 2 → Step p l
  unfolding payload_number in_turn after needs payload
  first_step k =
      let t : p.turn ≡ 1 = eqb-true p.turn 1 (rw k at g.turn.turns) in
      let z : piece_number (payload_in l) (length p.first) ≡ 0 = rw k at g.right in
      let f = few_letters (payload_in l) (length p.first) z in
      let a = length-append p.first (letters_in (payload_in l)) in
      let q = piece_pays (payload_in l) (length p.first) z in
      record {
        paid = rw (k, t) (omega (arith, g.long, count, sm.second));
        small = rw k record { first = omega (arith, count); second = sm.second };
      }

  second_step : (frame_in l).kind ≡ 3 → Step p l
  unfolding payload_number in_turn after needs payload
  second_step k =
      let t = either p.turn (rw k at g.turn.turns) in
      let z : piece_number (payload_in l) (length p.second) ≡ 0 = rw k at g.right in
      let f = few_letters (payload_in l) (length p.second) z in
      let a = length-append p.second (letters_in (payload_in l)) in
      let q = piece_pays (payload_in l) (length p.second) z in
      record {
        paid = rw (k, t.0, t.1) (omega (arith, g.long, count, sm.first));
        small = rw k record { first = sm.first; second = omega (arith, count) };
      }

  end_step : eqb (frame_in l).kind 1 ≡ false → eqb (frame_in l).kind 2 ≡ false → eqb (frame_in l).kind 3 ≡ false → Step p l
  unfolding payload_number in_turn after needs
  end_step k1 k2 k3 =
      let t = either p.turn (rw (k1, k2) at g.turn.turns) in
      let n : length (payload_in l) ≡ 0 = eqb-true (length (payload_in l)) 0 (size_right (eqb (length (payload_in l)) 0) (rw (k1, k2, k3) at g.right)) in
      record {
        paid = rw (k1, k2, k3, t.0, t.1) (omega (arith, g.long));
        small = rw (k1, k2, k3) record { first = sm.first; second = sm.second };
      }

  step : Step p l
  step = go (eqb (frame_in l).kind 1) (eqb (frame_in l).kind 2) (eqb (frame_in l).kind 3) refl refl refl
    where
      go : (a b d : Bool) → eqb (frame_in l).kind 1 ≡ a → eqb (frame_in l).kind 2 ≡ b → eqb (frame_in l).kind 3 ≡ d → Step p l
      go true b d x y w = job_step (eqb-true (frame_in l).kind 1 x)
      go false true d x y w = first_step (eqb-true (frame_in l).kind 2 y)
      go false false true x y w = second_step (eqb-true (frame_in l).kind 3 w)
      go false false false x y w = end_step x y w

-- what is too long is no line
no_line : (l : List ℕ) → 135 < length l → is_line l ≡ false
no_line l h = go (is_line l) refl
  where
    go : (t : Bool) → is_line l ≡ t → is_line l ≡ false
    go true e = absurd (omega (arith, (line_parts l e).most))
    go false e = e

long_line : (p : Progress) (l : List ℕ) → 135 < length l → line_number p l ≡ 20
unfolding line_number frame_number frame_in refused_frame
long_line p l h = rw (no_line l h)

-- ---- the whole input

-- two inputs with the same first line go on alike where what follows does
alike : (p : Progress) (count : ℕ) (l : List ℕ) (xs ys : List (List ℕ))
    → (line_number p l ≡ 0 → read_lines (after p l) (suc count) xs ≡ read_lines (after p l) (suc count) ys)
    → read_lines p count (l ∷ xs) ≡ read_lines p count (l ∷ ys)
unfolding read_lines
alike p count l xs ys h = go (eqb (line_number p l) 0) refl
  where
    go : (t : Bool) → eqb (line_number p l) 0 ≡ t → read_lines p count (l ∷ xs) ≡ read_lines p count (l ∷ ys)
    go true e = rw e (h (eqb-true (line_number p l) 0 e))
    go false e = rw e

-- and stop alike where it is too long
too_long : (p : Progress) (count : ℕ) (l : List ℕ) (ls : List (List ℕ)) → 135 < length l → read_lines p count (l ∷ ls) ≡ stopped 20 (suc count) p
unfolding read_lines
too_long p count l ls h = rw (long_line p l h)

-- s is not empty, m is where it is cut, and what follows its first line is known to be read alike
module _ (s : List ℕ) (m : ℕ) (p : Progress) (count : ℕ) (some : 0 < length s) (sm : Small p) (room : needs p + 136 ≤ m)
    (ih : (q : Progress) (k : ℕ) → Small q → needs q + 136 ≤ k
    → read_lines q (suc count) (lines_of (take k (drop (line_size s) s))) ≡ read_lines q (suc count) (lines_of (drop (line_size s) s))) where
  part : length (take m s) ≡ min m (length s)
  part = length-take m s

  first_of : lines_of (take m s) ≡ take (line_size (take m s)) (take m s) ∷ lines_of (drop (line_size (take m s)) (take m s))
  first_of = first_line (take m s) (omega (arith, part))

  by_line : (t : Bool) → leb (line_size s) m ≡ t → read_lines p count (lines_of (take m s)) ≡ read_lines p count (lines_of s)
  by_line true e =
      let h = leb-true (line_size s) m e in
      let l = take (line_size s) s in
      let n : length l ≡ line_size s = length-take-le (line_size s) s (size_le s) in
      let c : lines_of (take m s) ≡ l ∷ lines_of (take (m - line_size s) (drop (line_size s) s)) =
      first_of ∙ rw (size_whole m s h, take-take (line_size s) m s h, drop_take (line_size s) m s h) in
      let next : line_number p l ≡ 0 → read_lines (after p l) (suc count) (lines_of (take (m - line_size s) (drop (line_size s) s)))
      ≡ read_lines (after p l) (suc count) (lines_of (drop (line_size s) s)) =
      λ z. let w = step p l sm (good p l z) in ih (after p l) (m - line_size s) w.small (omega (arith, w.paid)) in
      rw (c, first_line s some) (alike p count l (lines_of (take (m - line_size s) (drop (line_size s) s))) (lines_of (drop (line_size s) s)) next)
  by_line false e =
      let h = leb-false (line_size s) m e in
      let z = size_le s in
      let k : line_size (take m s) ≡ m = size_cut m s (omega arith) in
      let a : 135 < length (take (line_size (take m s)) (take m s)) = omega (arith, length-take (line_size (take m s)) (take m s), part) in
      let b : 135 < length (take (line_size s) s) = omega (arith, length-take (line_size s) s) in
      ap (read_lines p count) first_of ∙ too_long p count (take (line_size (take m s)) (take m s)) (lines_of (drop (line_size (take m s)) (take m s))) a
      ∙ sym (ap (read_lines p count) (first_line s some) ∙ too_long p count (take (line_size s) s) (lines_of (drop (line_size s) s)) b)

cut_from : (fuel : ℕ) (s : List ℕ) (m : ℕ) (p : Progress) (count : ℕ) → length s ≤ fuel → Small p → needs p + 136 ≤ m
    → read_lines p count (lines_of (take m s)) ≡ read_lines p count (lines_of s)
cut_from zero [] m p count h sm room = ap (λ (s : List ℕ). read_lines p count (lines_of s)) (take-nil m)
cut_from (suc fuel) [] m p count h sm room = ap (λ (s : List ℕ). read_lines p count (lines_of s)) (take-nil m)
cut_from zero (b ∷ bs) m p count h sm room = absurd (omega arith)
cut_from (suc fuel) (b ∷ bs) m p count h sm room =
    let s = b ∷ bs in
    let some : 0 < length s = omega arith in
    let less : length (drop (line_size s) s) ≤ fuel = omega (arith, length-drop (line_size s) s, size_some s some) in
    by_line s m p count some sm room (λ q k y r. cut_from fuel (drop (line_size s) s) k q (suc count) less y r) (leb (line_size s) m) refl

-- the first 300,000 bytes decide
pub cut : (input : List ℕ) → input_of (take 300000 input) ≡ input_of input
unfolding input_of nothing_yet needs
cut input = cut_from (length input) input 300000 nothing_yet 0 (omega arith) (record { first = omega arith; second = omega arith }) (omega arith)

-- so two inputs that agree there are read alike
pub agree : (input other : List ℕ) → take 300000 input ≡ take 300000 other → input_of input ≡ input_of other
agree input other e = sym (cut input) ∙ ap input_of e ∙ cut other
