-- A line as the writer lays it out: its digits and the line feed, stored one after the other from the front, are one run. Assumes nothing.
use Rattle.std.proofs.Common.{◌≡◌, ℕ, suc, ◌+◌, ◌-◌, ◌*◌, ◌<◌, ◌≤◌, Bool, true, false, leb, List, [], ◌∷◌, ◌++◌, length, drop, set, sym, refl, ap, ◌∙◌, append_assoc, arith, length-append, le-leb}
use lib.Seq.{sets}
use borrow.Author.Tests.{lt-leb}
use Rattle.lines.specs.Digits.{digits_of}
use Rattle.lines.specs.Writing.{check_of, frame_of, line_of, is_written, written, leaves}
use Rattle.lines.proofs.Storing.{sets_append, sets_front, digits_length, digits_append}

pub line_length : (kind : ℕ) (payload : List ℕ) → length (line_of kind payload) ≡ 2 * length payload + 7
unfolding line_of frame_of
line_length kind payload =
    let bs = kind ∷ length payload ∷ payload in
    let f = bs ++ (check_of bs ∷ []) in
    omega (arith, length-append (digits_of f) (10 ∷ []), digits_length f, length-append bs (check_of bs ∷ []))

-- a writer's two ways out
pub refuses : (line out : List ℕ) (fits : Bool) → is_written fits line out ≡ false
    → (record { number = 27; length = 0 } ≡ written fits line out) × (out ≡ leaves fits line out)
unfolding written leaves
refuses line out fits e = rw e (refl, refl)

pub writes : (line out : List ℕ) (fits : Bool) (n : ℕ) (o : List ℕ) → is_written fits line out ≡ true → n ≡ length line → o ≡ line ++ drop (length line) out
    → (record { number = 0; length = n } ≡ written fits line out) × (o ≡ leaves fits line out)
unfolding written leaves
writes line out fits n o e l h = rw (e, l) (refl, h)

module _ (kind : ℕ) (payload out : List ℕ) where
  -- the payload is too long for a line
  pub payload_long : 64 < length payload → is_written (leb (length payload) 64) (line_of kind payload) out ≡ false
  unfolding is_written
  payload_long h = rw (lt-leb (length payload) 64 h)

  -- the slice is too short for the line
  pub slice_short : length payload ≤ 64 → length out ≤ 2 * length payload + 6 → is_written (leb (length payload) 64) (line_of kind payload) out ≡ false
  unfolding is_written
  slice_short h g =
      let l : length out < length (line_of kind payload) = omega (arith, line_length kind payload) in
      rw (le-leb (length payload) 64 h, lt-leb (length (line_of kind payload)) (length out) l)

  pub has_room : length payload ≤ 64 → 2 * length payload + 6 < length out → is_written (leb (length payload) 64) (line_of kind payload) out ≡ true
  unfolding is_written
  has_room h g =
      let l : length (line_of kind payload) ≤ length out = omega (arith, line_length kind payload) in
      rw (le-leb (length payload) 64 h, le-leb (length (line_of kind payload)) (length out) l)

  -- the five stores of a line are its digits and its line feed
  pub line_stored : (a b c d : List ℕ) (check feed : ℕ) → 2 * length payload + 6 < length out → feed ≡ 2 * length payload + 6
      → check ≡ check_of (kind ∷ length payload ∷ payload)
      → a ≡ sets out 0 (digits_of (kind ∷ [])) → b ≡ sets a 2 (digits_of (length payload ∷ [])) → c ≡ sets b 4 (digits_of payload)
      → d ≡ sets c (feed - 2) (digits_of (check ∷ [])) → set d feed 10 ≡ line_of kind payload ++ drop (length (line_of kind payload)) out
  unfolding line_of frame_of digits_of
  line_stored a b c d check feed room f k ea eb ec ed =
      let bs = kind ∷ length payload ∷ payload in
      let n : feed - 2 ≡ 4 + length (digits_of payload) = omega (arith, digits_length payload) in
      let m : feed ≡ suc (suc (4 + length (digits_of payload))) = omega (arith, digits_length payload) in
      let tail : digits_of (payload ++ (check_of bs ∷ [])) ++ (10 ∷ []) ≡ digits_of payload ++ (digits_of (check_of bs ∷ []) ++ (10 ∷ [])) =
      ap (λ (l : List ℕ). l ++ (10 ∷ [])) (digits_append payload (check_of bs ∷ [])) ∙ append_assoc (digits_of payload) (digits_of (check_of bs ∷ [])) (10 ∷ []) in
      let whole : b ≡ sets (sets out 0 (digits_of (kind ∷ []))) 2 (digits_of (length payload ∷ [])) =
      eb ∙ ap (λ (l : List ℕ). sets l 2 (digits_of (length payload ∷ []))) ea in
      let last : set d feed 10 ≡ sets c (4 + length (digits_of payload)) (digits_of (check_of bs ∷ []) ++ (10 ∷ [])) = rw (m, ed, n, k) in
      last ∙ ap (λ (l : List ℕ). sets l (4 + length (digits_of payload)) (digits_of (check_of bs ∷ []) ++ (10 ∷ []))) ec
      ∙ sym (sets_append b 4 (digits_of payload) (digits_of (check_of bs ∷ []) ++ (10 ∷ [])))
      ∙ ap (sets b 4) (sym tail)
      ∙ ap (λ (l : List ℕ). sets l 4 (digits_of (payload ++ (check_of bs ∷ [])) ++ (10 ∷ []))) whole
      ∙ sets_front out (line_of kind payload) (omega (arith, line_length kind payload))
