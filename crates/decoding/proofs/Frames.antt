-- The four ways out of reading a line, by what was found: it is no line, its length byte is wrong, its check is wrong, or it is a frame. Assumes nothing.
use Rattle.std.proofs.Common.{◌≡◌, ℕ, ◌+◌, ◌%◌, ◌<◌, ◌≤◌, Bool, true, false, eqb, List, length, get_or, sym, refl, ◌∙◌, arith, eq-eqb, ne_eqb, eqb-true}
use lib.Seq.{sets}
use Rattle.decoding.specs.Digits.{is_line, bytes_in}
use Rattle.lines.specs.Writing.{byte_sum}
use Rattle.decoding.specs.Reading.{refused_frame, frame_from, frame_in, bytes_left}
use Rattle.decoding.proofs.Decoding.{line_parts, bytes_length, byte_at}

pub no_line : (line old : List ℕ) → is_line line ≡ false → (refused_frame 20 ≡ frame_in line) × (old ≡ bytes_left line old)
unfolding frame_in bytes_left
no_line line old h = rw h (refl, refl)

-- a line has 3 to 67 bytes
pub count_least : (line : List ℕ) → is_line line ≡ true → 3 ≤ length (bytes_in line)
count_least line h = let p = line_parts line h in omega (arith, p.least, bytes_length line p.ends)

pub count_most : (line : List ℕ) → is_line line ≡ true → length (bytes_in line) ≤ 67
count_most line h = let p = line_parts line h in omega (arith, p.most, bytes_length line p.ends)

module _ (line old bytes : List ℕ) (count size sum : ℕ) (ok : is_line line ≡ true) (room : 67 ≤ length old)
    (stored : bytes ≡ sets old 0 (bytes_in line)) (counted : count ≡ length (bytes_in line)) (summed : sum ≡ byte_sum (bytes_in line) % 256)
    (sized : size ≡ get_or bytes 1 0) where
  pub byte_is : (i : ℕ) → i < 3 → get_or bytes i 0 ≡ get_or (bytes_in line) i 0
  byte_is i h = rw stored (byte_at line old i (omega (arith, count_least line ok)) (omega (arith, count_most line ok)))

  left : bytes ≡ bytes_left line old
  unfolding bytes_left
  left = rw ok stored

  pub length_wrong : (size + 3 ≡ count → ⊥) → (refused_frame 21 ≡ frame_in line) × (bytes ≡ bytes_left line old)
  unfolding frame_in frame_from
  length_wrong n =
      let g : eqb (get_or (bytes_in line) 1 0 + 3) (length (bytes_in line)) ≡ false =
      ne_eqb (get_or (bytes_in line) 1 0 + 3) (length (bytes_in line)) (λ h. n (omega (arith, sized, counted, byte_is 1 (omega arith)))) in
      (rw (ok, g), left)

  module _ (long : size + 3 ≡ count) where
    length_right : eqb (get_or (bytes_in line) 1 0 + 3) (length (bytes_in line)) ≡ true
    length_right = eq-eqb (get_or (bytes_in line) 1 0 + 3) (length (bytes_in line)) (omega (arith, sized, counted, byte_is 1 (omega arith)))

    pub check_wrong : (sum ≡ 0 → ⊥) → (refused_frame 22 ≡ frame_in line) × (bytes ≡ bytes_left line old)
    unfolding frame_in frame_from
    check_wrong n =
        let g : eqb (byte_sum (bytes_in line) % 256) 0 ≡ false = ne_eqb (byte_sum (bytes_in line) % 256) 0 (λ h. n (summed ∙ h)) in
        (rw (ok, length_right, g), left)

    pub is_frame : sum ≡ 0 → (record { number = 0; kind = get_or bytes 0 0; size = size } ≡ frame_in line) × (bytes ≡ bytes_left line old)
    unfolding frame_in frame_from
    is_frame z =
        let g : eqb (byte_sum (bytes_in line) % 256) 0 ≡ true = eq-eqb (byte_sum (bytes_in line) % 256) 0 (sym summed ∙ z) in
        (rw (ok, length_right, g, byte_is 0 (omega arith), sized, byte_is 1 (omega arith)), left)

-- what is known of a line whose number is 0
pub record FrameRead (line : List ℕ) : Type 0 where
  pub ok : is_line line ≡ true
  pub long : get_or (bytes_in line) 1 0 + 3 ≡ length (bytes_in line)
  pub kind : (frame_in line).kind ≡ get_or (bytes_in line) 0 0
  pub size : (frame_in line).size ≡ get_or (bytes_in line) 1 0

pub frame_read : (line : List ℕ) → (frame_in line).number ≡ 0 → FrameRead line
unfolding frame_in frame_from refused_frame
frame_read line z = go (is_line line) (eqb (get_or (bytes_in line) 1 0 + 3) (length (bytes_in line))) (eqb (byte_sum (bytes_in line) % 256) 0) refl refl refl
  where
    go : (a b d : Bool) → is_line line ≡ a → eqb (get_or (bytes_in line) 1 0 + 3) (length (bytes_in line)) ≡ b → eqb (byte_sum (bytes_in line) % 256) 0 ≡ d
        → FrameRead line
    go false b d p q r = let n = rw p at z in absurd (omega arith)
    go true false d p q r = let n = rw (p, q) at z in absurd (omega arith)
    go true true false p q r = let n = rw (p, q, r) at z in absurd (omega arith)
    go true true true p q r =
        record { ok = p; long = eqb-true (get_or (bytes_in line) 1 0 + 3) (length (bytes_in line)) q; kind = rw (p, q, r); size = rw (p, q, r) }
