-- What our writers write is read back, line by line: each line is found again, is in turn, and adds what it was written from. Assumes nothing.
use mathlib.Core.Path.{◌≡◌, refl, sym, ap, ◌∙◌}
use mathlib.Core.Bool.{Bool, true, false, cond, ◌||◌}
use mathlib.Core.List.{List, [], ◌∷◌, ◌++◌, map, append-nil, append_assoc, Memᴰ}
use Prim.Native.Nat.{ℕ, suc, ◌+◌, ◌*◌, ◌/◌, ◌%◌, ◌<◌, ◌≤◌, zero-le}
use native.Mathlib.Omega.{arith}
use lib.Dec.{eqb, ltb, lit<}
use lib.ListN.{length, length-append, length-map}
use lib.Seq.{take_at, drop_at}
use borrow.Author.Tests.{le-leb, ne_eqb}
use Rattle.rules.specs.declared.Settings.{Settings}
use Rattle.rules.specs.Lists.{laid}
use Rattle.rules.specs.Letters.{letter_of}
use Rattle.lines.specs.Digits.{digit_of, digits_of}
use Rattle.decoding.specs.Digits.{bytes_in}
use Rattle.lines.specs.Writing.{check_of, frame_of, line_of}
use Rattle.decoding.specs.Reading.{frame_in}
use Rattle.lines.proofs.Storing.{digits_length}
use Rattle.decoding.proofs.RoundTrip.{Bytes, none, line_bytes, line_read}
use Rattle.payloads.specs.Pieces.{code_bytes, codes_in, codes_fit}
use Rattle.kinds.specs.Kinds.{job_payload, job_fits, job_line, piece_line, end_line}
use Rattle.readers.specs.Readers.{job_in}
use Rattle.payloads.proofs.Pieces.{CodesFit, codes_parts, packed_length, packed_are_bytes, codes_back}
use Rattle.kinds.proofs.Jobs.{JobForm, forward, stranded, job_form, forward_size, stranded_size, job_few, job_are_bytes}
use Rattle.readers.proofs.RoundTrip.{job_frame}
use Rattle.pieces.specs.Letters.{is_piece, piece_number, letters_in}
use Rattle.input.specs.Lines.{lines_of, line_size}
use Rattle.turns.specs.Turns.{Progress, known_kind, in_turn, frame_number, payload_in, size_number, job_size, payload_number, line_number, after}
use Rattle.input.specs.Grammar.{nothing_yet, finished, read_lines, input_of}
use Rattle.input.proofs.Lines.{first_line}

-- ---- a written line is found again

digit_large : (n : ℕ) → 10 < digit_of n
unfolding digit_of
digit_large n = go (ltb n 10)
  where
    go : (t : Bool) → 10 < cond t (48 + n) (55 + n)
    go true = omega arith
    go false = omega arith

digits_size : (bs rest : List ℕ) → line_size (digits_of bs ++ (10 ∷ rest)) ≡ 2 * length bs + 1
unfolding line_size digits_of
digits_size [] rest = refl
digits_size (b ∷ bs) rest =
    let h : eqb (digit_of (b / 16)) 10 ≡ false = ne_eqb (digit_of (b / 16)) 10 (λ e. omega (arith, digit_large (b / 16))) in
    let l : eqb (digit_of (b % 16)) 10 ≡ false = ne_eqb (digit_of (b % 16)) 10 (λ e. omega (arith, digit_large (b % 16))) in
    rw (h, l) (omega (arith, digits_size bs rest))

line_found : (kind : ℕ) (payload rest : List ℕ) → lines_of (line_of kind payload ++ rest) ≡ line_of kind payload ∷ lines_of rest
unfolding line_of
line_found kind payload rest =
    let ds = digits_of (frame_of kind payload) in
    let a : (ds ++ (10 ∷ [])) ++ rest ≡ ds ++ (10 ∷ rest) = append_assoc ds (10 ∷ []) rest in
    let l : length (ds ++ (10 ∷ [])) ≡ 2 * length (frame_of kind payload) + 1 =
    omega (arith, length-append ds (10 ∷ []), digits_length (frame_of kind payload)) in
    let n : line_size ((ds ++ (10 ∷ [])) ++ rest) ≡ 2 * length (frame_of kind payload) + 1 = rw a (digits_size (frame_of kind payload) rest) in
    first_line ((ds ++ (10 ∷ [])) ++ rest) (omega (arith, length-append (ds ++ (10 ∷ [])) rest))
    ∙ rw (n, take_at (ds ++ (10 ∷ [])) rest (2 * length (frame_of kind payload) + 1) l, drop_at (ds ++ (10 ∷ [])) rest (2 * length (frame_of kind payload) + 1) l)

job_found : (c : Settings) (rest : List ℕ) → lines_of (job_line c ++ rest) ≡ job_line c ∷ lines_of rest
unfolding job_line
job_found c rest = line_found 1 (job_payload c) rest

piece_found : (s : ℕ) (x rest : List ℕ) → lines_of (piece_line s x ++ rest) ≡ piece_line s x ∷ lines_of rest
unfolding piece_line
piece_found s x rest = line_found (1 + s) (code_bytes x) rest

module _ (kind : ℕ) (payload : List ℕ) (k : kind < 256) (long : length payload ≤ 64) (bytes : Bytes payload) where
  payload_back : payload_in (line_of kind payload) ≡ payload
  unfolding payload_in frame_of
  payload_back =
      let bs = kind ∷ length payload ∷ payload in
      rw (line_read kind payload k long bytes, line_bytes kind payload k long bytes) (take_at payload (check_of bs ∷ []) (length payload) refl)

  number_back : (p : Progress) → in_turn p.turn kind ≡ true → known_kind kind ≡ true → payload_number p kind payload ≡ 0
      → line_number p (line_of kind payload) ≡ 0
  unfolding line_number frame_number
  number_back p t n e = rw (payload_back, line_read kind payload k long bytes) (rw (n, t) e)

-- one good line more
line_on : (p : Progress) (count : ℕ) (l : List ℕ) (ls : List (List ℕ)) → line_number p l ≡ 0 → read_lines p count (l ∷ ls) ≡ read_lines (after p l) (suc count) ls
unfolding read_lines
line_on p count l ls z = rw z

abbrev progress : ℕ → Settings → List ℕ → List ℕ → Progress
progress t c f g = record { turn = t; settings = c; first = f; second = g }

-- ---- a job

-- either size of a job is right
job_right : (c : Settings) → job_size (length (job_payload c)) ≡ true
unfolding job_size
job_right c = go (job_form c)
  where
    go : JobForm c → eqb (length (job_payload c)) 7 || eqb (length (job_payload c)) 8 ≡ true
    go (forward z e) = rw (forward_size c z)
    go (stranded n e) = rw (stranded_size c n)

job_number : (c : Settings) → line_number nothing_yet (job_line c) ≡ 0
unfolding job_line nothing_yet in_turn known_kind payload_number size_number
job_number c = number_back 1 (job_payload c) (lit< tt) (job_few c) (job_are_bytes c) nothing_yet refl refl (rw (job_right c))

after_job : (p : Progress) (line : List ℕ) → (frame_in line).kind ≡ 1
    → after p line ≡ record { turn = 1; settings = job_in (frame_in line).size (bytes_in line); first = p.first; second = p.second }
unfolding after
after_job p line k = rw k

job_after : (c : Settings) → job_fits c ≡ true → after nothing_yet (job_line c) ≡ progress 1 c [] []
unfolding job_line nothing_yet
job_after c h =
    let r = line_read 1 (job_payload c) (lit< tt) (job_few c) (job_are_bytes c) in
    let b = line_bytes 1 (job_payload c) (lit< tt) (job_few c) (job_are_bytes c) in
    after_job nothing_yet (job_line c) (rw r) ∙ rw (r, b) (ap (λ (d : Settings). progress 1 d [] []) (job_frame c h))

-- ---- pieces

module _ (x : List ℕ) (fits : codes_fit x ≡ true) where
  parts : CodesFit x
  parts = codes_parts x fits

  few : length (code_bytes x) ≤ 64
  few = omega (arith, parts.few, (packed_length x).1)

  packed : Bytes (code_bytes x)
  packed = packed_are_bytes x parts.are

  codes : codes_in (code_bytes x) ≡ x
  codes = codes_back x parts.are

  piece_is : is_piece (code_bytes x) ≡ true
  unfolding is_piece
  piece_is =
      rw (le-leb 1 (length (code_bytes x)) (omega (arith, parts.some, (packed_length x).0)), le-leb (length (code_bytes x)) 64 few, codes) parts.are

  piece_number_lem : (count : ℕ) → count + length x ≤ 16384 → piece_number (code_bytes x) count ≡ 0
  unfolding piece_number
  piece_number_lem count h = rw (piece_is, codes, le-leb (count + length x) 16384 h)

  letters_back : (kind : ℕ) → kind < 256 → letters_in (payload_in (line_of kind (code_bytes x))) ≡ map letter_of x
  unfolding letters_in
  letters_back kind k = rw (payload_back kind (code_bytes x) k few packed, codes)

module _ (c : Settings) (x f g : List ℕ) where
  first_number : codes_fit x ≡ true → length f + length x ≤ 16384 → line_number (progress 1 c f g) (piece_line 1 x) ≡ 0
  unfolding piece_line in_turn known_kind payload_number
  first_number fits h = number_back 2 (code_bytes x) (lit< tt) (few x fits) (packed x fits) (progress 1 c f g) refl refl (piece_number_lem x fits (length f) h)

  first_after : codes_fit x ≡ true → after (progress 1 c f g) (piece_line 1 x) ≡ progress 1 c (f ++ map letter_of x) g
  unfolding piece_line after
  first_after fits = rw (letters_back x fits 2 (lit< tt), line_read 2 (code_bytes x) (lit< tt) (few x fits) (packed x fits))

  second_number : (t : ℕ) → eqb t 1 || eqb t 2 ≡ true → codes_fit x ≡ true → length g + length x ≤ 16384 → line_number (progress t c f g) (piece_line 2 x) ≡ 0
  unfolding piece_line in_turn known_kind payload_number
  second_number t o fits h =
      number_back 3 (code_bytes x) (lit< tt) (few x fits) (packed x fits) (progress t c f g) o refl (piece_number_lem x fits (length g) h)

  second_after : (t : ℕ) → codes_fit x ≡ true → after (progress t c f g) (piece_line 2 x) ≡ progress 2 c f (g ++ map letter_of x)
  unfolding piece_line after
  second_after t fits = rw (letters_back x fits 3 (lit< tt), line_read 3 (code_bytes x) (lit< tt) (few x fits) (packed x fits))

-- ---- an end

end_found : lines_of end_line ≡ line_of 4 [] ∷ []
unfolding end_line lines_of
end_found = ap lines_of (sym (append-nil (line_of 4 []))) ∙ line_found 4 [] []

end_number : (p : Progress) → eqb p.turn 1 || eqb p.turn 2 ≡ true → line_number p (line_of 4 []) ≡ 0
unfolding in_turn known_kind payload_number size_number
end_number p o = number_back 4 [] (lit< tt) zero-le none p o refl refl

end_after : (p : Progress) → after p (line_of 4 []) ≡ progress 3 p.settings p.first p.second
unfolding after
end_after p = rw (line_read 4 [] (lit< tt) zero-le none)

-- ---- all of it

-- the letters of some pieces
abbrev pub letters : List (List ℕ) → List ℕ
letters xs = laid (map letter_of) xs

abbrev pub Fit : List (List ℕ) → Type 0
Fit xs = (x : List ℕ) → Memᴰ x xs → codes_fit x ≡ true

module _ (c : Settings) where
  firsts : (xs : List (List ℕ)) (f g : List ℕ) (count : ℕ) (rest : List ℕ) → Fit xs → length f + length (letters xs) ≤ 16384
      → read_lines (progress 1 c f g) count (lines_of (laid (piece_line 1) xs ++ rest))
      ≡ read_lines (progress 1 c (f ++ letters xs) g) (count + length xs) (lines_of rest)
  unfolding laid
  firsts [] f g count rest fit h =
      let n : count + 0 ≡ count = omega arith in
      rw (append-nil f, n)
  firsts (x ∷ xs) f g count rest fit h =
      let ft = fit x (Memᴰ.head refl) in
      let l = length-append (map letter_of x) (letters xs) in
      let m = length-map x letter_of in
      let k : length (f ++ map letter_of x) ≡ length f + length x = length-append f (map letter_of x) ∙ ap (λ (n : ℕ). length f + n) m in
      let n : suc count + length xs ≡ count + suc (length xs) = omega arith in
      let a : (piece_line 1 x ++ laid (piece_line 1) xs) ++ rest ≡ piece_line 1 x ++ (laid (piece_line 1) xs ++ rest) =
      append_assoc (piece_line 1 x) (laid (piece_line 1) xs) rest in
      ap (λ (s : List ℕ). read_lines (progress 1 c f g) count (lines_of s)) a
      ∙ ap (read_lines (progress 1 c f g) count) (piece_found 1 x (laid (piece_line 1) xs ++ rest))
      ∙ line_on (progress 1 c f g) count (piece_line 1 x) (lines_of (laid (piece_line 1) xs ++ rest)) (first_number c x f g ft (omega arith))
      ∙ ap (λ (p : Progress). read_lines p (suc count) (lines_of (laid (piece_line 1) xs ++ rest))) (first_after c x f g ft)
      ∙ firsts xs (f ++ map letter_of x) g (suc count) rest (λ y i. fit y (Memᴰ.tail i)) (omega arith)
      ∙ rw (n, append_assoc f (map letter_of x) (letters xs))

  -- the end is read wherever pieces may stand
  ended : (t : ℕ) (f g : List ℕ) (count : ℕ) → eqb t 1 || eqb t 2 ≡ true
      → read_lines (progress t c f g) count (lines_of end_line)
      ≡ record { answer = record { number = 0; line = 0; settings = c; first = length f; second = length g }; first = f; second = g }
  unfolding read_lines finished
  ended t f g count o =
      let p = progress t c f g in
      ap (read_lines p count) end_found ∙ line_on p count (line_of 4 []) [] (end_number p o) ∙ ap (λ (r : Progress). read_lines r (suc count) []) (end_after p)

  seconds : (ys : List (List ℕ)) (t : ℕ) (f g : List ℕ) (count : ℕ) → eqb t 1 || eqb t 2 ≡ true → Fit ys → length g + length (letters ys) ≤ 16384
      → read_lines (progress t c f g) count (lines_of (laid (piece_line 2) ys ++ end_line))
      ≡ record {
        answer = record {
          number = 0;
          line = 0;
          settings = c;
          first = length f;
          second = length (g ++ letters ys);
        };
        first = f;
        second = g ++ letters ys;
      }
  unfolding laid
  seconds [] t f g count o fit h = rw (append-nil g) (ended t f g count o)
  seconds (y ∷ ys) t f g count o fit h =
      let ft = fit y (Memᴰ.head refl) in
      let l = length-append (map letter_of y) (letters ys) in
      let m = length-map y letter_of in
      let k : length (g ++ map letter_of y) ≡ length g + length y = length-append g (map letter_of y) ∙ ap (λ (n : ℕ). length g + n) m in
      let a : (piece_line 2 y ++ laid (piece_line 2) ys) ++ end_line ≡ piece_line 2 y ++ (laid (piece_line 2) ys ++ end_line) =
      append_assoc (piece_line 2 y) (laid (piece_line 2) ys) end_line in
      ap (λ (s : List ℕ). read_lines (progress t c f g) count (lines_of s)) a
      ∙ ap (read_lines (progress t c f g) count) (piece_found 2 y (laid (piece_line 2) ys ++ end_line))
      ∙ line_on (progress t c f g) count (piece_line 2 y) (lines_of (laid (piece_line 2) ys ++ end_line)) (second_number c y f g t o ft (omega arith))
      ∙ ap (λ (p : Progress). read_lines p (suc count) (lines_of (laid (piece_line 2) ys ++ end_line))) (second_after c y f g t ft)
      ∙ seconds ys 2 f (g ++ map letter_of y) (suc count) refl (λ z i. fit z (Memᴰ.tail i)) (omega arith)
      ∙ rw (append_assoc g (map letter_of y) (letters ys))

-- a job, pieces of any sizes and an end, written by our writers, are read back as the same settings and letters
pub round_trip : (c : Settings) (xs ys : List (List ℕ)) → job_fits c ≡ true → Fit xs → Fit ys → length (letters xs) ≤ 16384 → length (letters ys) ≤ 16384
    → input_of (job_line c ++ (laid (piece_line 1) xs ++ (laid (piece_line 2) ys ++ end_line)))
    ≡ record {
      answer = record { number = 0; line = 0; settings = c; first = length (letters xs); second = length (letters ys) };
      first = letters xs;
      second = letters ys;
    }
unfolding input_of
round_trip c xs ys h fx fy lx ly =
    let rest = laid (piece_line 1) xs ++ (laid (piece_line 2) ys ++ end_line) in
    ap (read_lines nothing_yet 0) (job_found c rest)
    ∙ line_on nothing_yet 0 (job_line c) (lines_of rest) (job_number c)
    ∙ ap (λ (p : Progress). read_lines p 1 (lines_of rest)) (job_after c h)
    ∙ firsts c xs [] [] 1 (laid (piece_line 2) ys ++ end_line) fx (omega arith)
    ∙ seconds c ys 1 (letters xs) [] (1 + length xs) refl fy (omega arith)
