-- A line is read back as what it was made of, digit by digit, so no two frames have the same line. Assumes nothing.
use Rattle.std.proofs.Common.{◌≡◌, ℕ, ◌+◌, ◌*◌, ◌/◌, ◌%◌, ◌<◌, ◌≤◌, Bool, true, eqb, List, [], ◌∷◌, ◌++◌, length, take, sym, refl, ap, ◌∙◌, arith, eqb→eq, length-append, take_at, lt-ltb, eq-eqb, le-leb}
use Rattle.rules.proofs.Computed.{at_each}
use Rattle.lines.specs.Digits.{digit_of, digits_of}
use Rattle.decoding.specs.Digits.{nibble_of, closed, is_line, bytes_in}
use Rattle.lines.specs.Writing.{check_of, frame_of, line_of}
use Rattle.decoding.specs.Reading.{frame_from, frame_in}
use Rattle.lines.proofs.Sums.{sum_zero, check_small}
use Rattle.lines.proofs.Lines.{line_length}

back : ℕ → Bool
back n = eqb (nibble_of (digit_of n)) n

digit_back : (n : ℕ) → n < 16 → nibble_of (digit_of n) ≡ n
unfolding back nibble_of digit_of
digit_back n h = eqb→eq (nibble_of (digit_of n)) n (at_each back 16 tt n h)

-- every number of a list is a byte
pub data Bytes : List ℕ → Type 0 where
  none : Bytes []
  more : {b : ℕ} {bs : List ℕ} → b < 256 → Bytes bs → Bytes (b ∷ bs)

pub bytes_append : {bs cs : List ℕ} → Bytes bs → Bytes cs → Bytes (bs ++ cs)
bytes_append none r = r
bytes_append (more h s) r = more h (bytes_append s r)

-- a byte's digits are those of its halves
record HalvesOf (b : ℕ) : Type 0 where
  high : nibble_of (digit_of (b / 16)) ≡ b / 16
  low : nibble_of (digit_of (b % 16)) ≡ b % 16
  small : b / 16 < 16
  rest : b % 16 < 16

halves_of : (b : ℕ) → b < 256 → HalvesOf b
halves_of b h =
    let s : b / 16 < 16 = omega arith in
    let r : b % 16 < 16 = omega arith in
    record { high = digit_back (b / 16) s; low = digit_back (b % 16) r; small = s; rest = r }

pub bytes_back : (bs : List ℕ) → Bytes bs → bytes_in (digits_of bs ++ (10 ∷ [])) ≡ bs
unfolding bytes_in digits_of
bytes_back [] none = refl
bytes_back (b ∷ bs) (more h r) =
    let g = halves_of b h in
    let e : b / 16 * 16 + b % 16 ≡ b = omega arith in
    rw (g.high, g.low, e, bytes_back bs r)

closed_back : (bs : List ℕ) → Bytes bs → closed (digits_of bs ++ (10 ∷ [])) ≡ true
unfolding closed digits_of
closed_back [] none = refl
closed_back (b ∷ bs) (more h r) =
    let g = halves_of b h in
    rw (g.high, g.low, lt-ltb (b / 16) 16 g.small, lt-ltb (b % 16) 16 g.rest) (closed_back bs r)

module _ (kind : ℕ) (payload : List ℕ) (k : kind < 256) (long : length payload ≤ 64) (bytes : Bytes payload) where
  frame_bytes : Bytes (frame_of kind payload)
  unfolding frame_of
  frame_bytes =
      let n : length payload < 256 = omega arith in
      more k (more n (bytes_append bytes (more (check_small (kind ∷ length payload ∷ payload)) none)))

  -- the bytes of a written line
  pub line_bytes : bytes_in (line_of kind payload) ≡ frame_of kind payload
  unfolding line_of
  line_bytes = bytes_back (frame_of kind payload) frame_bytes

  -- a written line is a line
  pub line_is_line : is_line (line_of kind payload) ≡ true
  unfolding is_line line_of
  line_is_line =
      let n : length (digits_of (frame_of kind payload) ++ (10 ∷ [])) ≡ 2 * length payload + 7 = line_length kind payload in
      rw (n, le-leb 7 (2 * length payload + 7) (omega arith), le-leb (2 * length payload + 7) 135 (omega arith))
      (closed_back (frame_of kind payload) frame_bytes)

  -- and is read as its kind and the size of its payload
  pub line_read : frame_in (line_of kind payload) ≡ record { number = 0; kind = kind; size = length payload }
  unfolding frame_in frame_from frame_of
  line_read =
      let bs = kind ∷ length payload ∷ payload in
      let n : length payload + 3 ≡ length (bs ++ (check_of bs ∷ [])) = omega (arith, length-append bs (check_of bs ∷ [])) in
      rw (line_is_line, line_bytes) (rw (eq-eqb (length payload + 3) (length (bs ++ (check_of bs ∷ []))) n, sum_zero bs))

-- no two frames have the same line
pub line_unique : (k : ℕ) (p : List ℕ) (l : ℕ) (q : List ℕ) → k < 256 → length p ≤ 64 → Bytes p → l < 256 → length q ≤ 64 → Bytes q
    → line_of k p ≡ line_of l q → (k ≡ l) × (p ≡ q)
unfolding frame_of
line_unique k p l q hk hp bp hl hq bq e =
    let f : k ∷ length p ∷ (p ++ (check_of (k ∷ length p ∷ p) ∷ [])) ≡ l ∷ length q ∷ (q ++ (check_of (l ∷ length q ∷ q) ∷ [])) =
    sym (line_bytes k p hk hp bp) ∙ ap bytes_in e ∙ line_bytes l q hl hq bq in
    let n : length p ≡ length q = cc in
    let t : p ++ (check_of (k ∷ length p ∷ p) ∷ []) ≡ q ++ (check_of (l ∷ length q ∷ q) ∷ []) = cc in (
      cc,
      sym (take_at p (check_of (k ∷ length p ∷ p) ∷ []) (length p) refl) ∙ ap (take (length p)) t
          ∙ take_at q (check_of (l ∷ length q ∷ q) ∷ []) (length p) (sym n),
    )
