-- One line taken, by its kind: where it is wrong all stays as it was, and else the state and the letters hold what the grammar says. Assumes nothing.
use mathlib.Core.Path.{◌≡◌, refl, sym, subst⁻¹, ◌∙◌}
use mathlib.Core.Bool.{Bool, true, false, ◌||◌}
use mathlib.Core.List.{List, ◌++◌}
use Prim.Native.Nat.{ℕ, ◌+◌, ◌-◌, ◌≤◌}
use native.Mathlib.Omega.{arith}
use lib.Dec.{eqb}
use lib.ListN.{length, take, drop, length-drop}
use lib.Seq.{sets, length-take-le, take-append-le, drop-append-le}
use borrow.Author.Tests.{ne_eqb, eqb-true}
use Rattle.decoding.specs.Digits.{bytes_in}
use Rattle.decoding.specs.Reading.{Frame, refused_frame, frame_in, bytes_left}
use Rattle.lines.proofs.Storing.{sets_front}
use Rattle.lines.specs.declared.error.FrameError.{FrameError}
use Rattle.lines.specs.declared.error.FrameError.TheVariants.{WrongPayload}
use Rattle.lines.specs.Errors.{number_of}
use Rattle.lines.proofs.Unique.{error_some}
use Rattle.rules.specs.declared.Settings.{Settings}
use Rattle.std.proofs.Common.{ap, Ok, Err}
use Rattle.decoding.proofs.Decoding.{byte_at}
use Rattle.decoding.proofs.Frames.{count_most, FrameRead, frame_read}
use Rattle.payloads.specs.Numbers.{number_at}
use Rattle.readers.specs.Readers.{strand_in, job_in}
use Rattle.payloads.proofs.Numbers.{number_same}
use Rattle.pieces.specs.Taking.{piece_taken, piece_left}
use Rattle.pieces.proofs.Pieces.{Landed, lands, rests, landed}
use Rattle.turns.specs.declared.State.{State}
use Rattle.turns.specs.Turns.{Progress, frame_number, payload_in, size_number, job_size, payload_number, line_number, after}
use Rattle.turns.specs.States.{progress_of, StateSafe, LineTaken}
use Rattle.turns.proofs.Numbering.{is_frame, turn_wrong}

-- an error has a number
pub some_number : (e : FrameError) → number_of e ≡ 0 → ⊥
some_number e h = omega (arith, error_some e)

-- ---- the payload, as the frame says its size

pub frame_size : (line : List ℕ) → FrameRead line → (frame_in line).size + 3 ≡ length (bytes_in line)
frame_size line f = omega (arith, f.size, f.long)

pub payload_size : (line : List ℕ) → FrameRead line → length (payload_in line) ≡ (frame_in line).size
unfolding payload_in
payload_size line f = length-take-le (frame_in line).size (drop 2 (bytes_in line)) (omega (arith, length-drop 2 (bytes_in line), frame_size line f))

-- a job's payload has 7 bytes or 8
pub data JobSized (size : ℕ) : Type 0 where
  seven : size ≡ 7 → JobSized size
  eight : size ≡ 8 → JobSized size

pub job_sized : (size : ℕ) → job_size size ≡ true → JobSized size
unfolding job_size
job_sized size h = go (eqb size 7) refl h
  where
    go : (t : Bool) → eqb size 7 ≡ t → t || eqb size 8 ≡ true → JobSized size
    go true e w = seven (eqb-true size 7 e)
    go false e w = eight (eqb-true size 8 w)

pub size_right : (right : Bool) → size_number right ≡ 0 → right ≡ true
unfolding size_number
size_right true z = refl
size_right false z = absurd (omega arith)

-- ---- the line

module _ (line : List ℕ) (s : State) (first second : List ℕ) (safe : StateSafe s first second) where
  abbrev here : Progress
  here = progress_of s first second

  -- where it is wrong, all stays as it was
  pub refuses : (e : FrameError) → line_number here line ≡ number_of e → LineTaken line s first second (Err e) first second
  refuses e h =
      record {
        number = sym h;
        progress = rw (h, ne_eqb (number_of e) 0 (some_number e));
        first_most = safe.first_most;
        second_most = safe.second_most;
        first_grows = omega arith;
        second_grows = omega arith;
        first_rest = refl;
        second_rest = refl;
      }

  -- 20 to 22
  pub line_refused : {e : FrameError} → refused_frame (number_of e) ≡ frame_in line → LineTaken line s first second (Err e) first second
  unfolding line_number frame_number refused_frame progress_of
  line_refused {e} h =
      let n = ne_eqb (number_of e) 0 (some_number e) in
      refuses e (rw (← h, n) (rw n))

  module _ {kind size : ℕ} (read : record { number = 0; kind = kind; size = size } ≡ frame_in line) where
    same_kind : (frame_in line).kind ≡ kind
    same_kind = ap (λ (f : Frame). f.kind) (sym read)

    same_size : (frame_in line).size ≡ size
    same_size = ap (λ (f : Frame). f.size) (sym read)

    -- 23 and 24
    by_turn : frame_number (s.turn) (frame_in line) ≡ turn_wrong (s.turn) kind
    unfolding frame_number turn_wrong
    by_turn = rw (← read)

    pub turn_refused : {e : FrameError} → number_of e ≡ turn_wrong (s.turn) kind
        → LineTaken line s first second (Err e) first second
    unfolding line_number progress_of
    turn_refused {e} h = refuses e (rw (by_turn, ← h, ne_eqb (number_of e) 0 (some_number e)))

    module _ (z : turn_wrong (s.turn) kind ≡ 0) where
      found : FrameRead line
      found = frame_read line (is_frame (s.turn) (frame_in line) (by_turn ∙ z))

      -- what else may be wrong is wrong with the payload
      by_payload : line_number here line ≡ payload_number here kind (payload_in line)
      unfolding line_number progress_of
      by_payload = rw (by_turn, z, same_kind)

      size_is : size + 3 ≡ length (bytes_in line)
      size_is = omega (arith, frame_size line found, same_size)

      long_payload : length (payload_in line) ≡ size
      long_payload = payload_size line found ∙ same_size

      pub inside : size + 2 ≤ 67
      inside = omega (arith, size_is, count_most line found.ok)

      module _ (old bytes : List ℕ) (room : 67 ≤ length old) (left : bytes ≡ bytes_left line old) where
        in_place : bytes ≡ bytes_in line ++ drop (length (bytes_in line)) old
        unfolding bytes_left
        in_place = left ∙ rw found.ok (sets_front old (bytes_in line) (omega (arith, count_most line found.ok)))

        pub payload_is : take (size + 2 - 2) (drop 2 bytes) ≡ payload_in line
        unfolding payload_in
        payload_is =
            let n = size_is in
            let e : size + 2 - 2 ≡ (frame_in line).size = omega (arith, same_size) in
            let d : drop 2 (bytes_in line ++ drop (length (bytes_in line)) old) ≡ drop 2 (bytes_in line) ++ drop (length (bytes_in line)) old =
            drop-append-le 2 (bytes_in line) (drop (length (bytes_in line)) old) (omega arith) in
            rw (e, in_place, d) (take-append-le (frame_in line).size (drop 2 (bytes_in line)) (drop (length (bytes_in line)) old)
            (omega (arith, length-drop 2 (bytes_in line), same_size)))

        -- a number of the payload stands in the bytes as in the line's
        number_is : (at width : ℕ) → at + width ≤ size + 2 → number_at bytes at width ≡ number_at (bytes_in line) at width
        unfolding bytes_left
        number_is at width h =
            let n = size_is in
            let b : bytes ≡ sets old 0 (bytes_in line) = left ∙ rw found.ok in
            number_same bytes (bytes_in line) at width (λ i l. rw b (byte_at line old i (omega arith) (omega (arith, count_most line found.ok))))

        job_is : JobSized size → job_in size bytes ≡ job_in size (bytes_in line)
        unfolding job_in strand_in
        job_is (seven e) = rw e (rw (number_is 2 1 (omega arith), number_is 3 2 (omega arith), number_is 5 2 (omega arith), number_is 7 2 (omega arith)))
        job_is (eight e) =
            rw e
            (rw (number_is 2 1 (omega arith), number_is 3 2 (omega arith), number_is 5 2 (omega arith), number_is 7 2 (omega arith), number_is 9 1 (omega arith)))

        pub job_taken : {t : ℕ} {settings : Settings} → kind ≡ 1 → t ≡ 1 → size_number (job_size size) ≡ 0 → settings ≡ job_in size bytes
            → LineTaken line s first second (Ok (record { turn = t; settings = settings; first = s.first; second = s.second })) first second
        unfolding payload_number after progress_of
        job_taken k u r c =
            let m : line_number here line ≡ 0 = by_payload ∙ rw (k, long_payload) r in
            record {
              number = sym m;
              progress = rw (m, same_kind, k, same_size, u, c) (rw (job_is (job_sized size (size_right (job_size size) r))));
              first_most = safe.first_most;
              second_most = safe.second_most;
              first_grows = omega arith;
              second_grows = omega arith;
              first_rest = refl;
              second_rest = refl;
            }

      pub job_refused : {e : FrameError} → kind ≡ 1 → number_of e ≡ size_number (job_size size) → LineTaken line s first second (Err e) first second
      unfolding payload_number progress_of
      job_refused {e} k h = refuses e (by_payload ∙ rw (k, long_payload) (sym h))

      pub first_taken : {payload more : List ℕ} {t : ℕ} {count : ℕ} → kind ≡ 2 → t ≡ 1 → payload ≡ payload_in line
          → record { number = 0; count = count } ≡ piece_taken payload s.first → more ≡ piece_left payload s.first first
          → LineTaken line s first second (Ok (record { turn = t; settings = s.settings; first = count; second = s.second })) more second
      unfolding payload_number after progress_of
      first_taken {payload} {more} {t} {count} k u e it im = go (landed payload first more s.first _ safe.first_room it im)
        where
          held : length (take s.first first) ≡ s.first
          held = length-take-le s.first first (omega (arith, safe.first_most, safe.first_room))

          go : Landed payload first more s.first (record { number = 0; count = count })
              → LineTaken line s first second (Ok (record { turn = t; settings = s.settings; first = count; second = s.second })) more second
          go (rests p n l) = absurd (n refl)
          go (lands p n f g tk dr) =
              let m : line_number here line ≡ 0 = by_payload ∙ rw (k, held, ← e) p in
              record {
                number = sym m;
                progress = rw (m, same_kind, k, u, tk, e);
                first_most = f;
                second_most = safe.second_most;
                first_grows = g;
                second_grows = omega arith;
                first_rest = dr;
                second_rest = refl;
              }

      pub first_refused : {payload more : List ℕ} {e : FrameError} → kind ≡ 2 → payload ≡ payload_in line
          → record { number = number_of e; count = s.first } ≡ piece_taken payload s.first → more ≡ piece_left payload s.first first
          → LineTaken line s first second (Err e) more second
      unfolding payload_number progress_of
      first_refused {payload} {more} {e} k is it im = go (landed payload first more s.first _ safe.first_room it im)
        where
          held : length (take s.first first) ≡ s.first
          held = length-take-le s.first first (omega (arith, safe.first_most, safe.first_room))

          go : Landed payload first more s.first (record { number = number_of e; count = s.first }) → LineTaken line s first second (Err e) more second
          go (rests p n l) = subst⁻¹ (λ (x : List ℕ). LineTaken line s first second (Err e) x second) l (refuses e (by_payload ∙ rw (k, held, ← is) p))
          go (lands p n f g tk dr) = absurd (some_number e n)

      pub second_taken : {payload more : List ℕ} {t : ℕ} {count : ℕ} → kind ≡ 3 → t ≡ 2 → payload ≡ payload_in line
          → record { number = 0; count = count } ≡ piece_taken payload s.second → more ≡ piece_left payload s.second second
          → LineTaken line s first second (Ok (record { turn = t; settings = s.settings; first = s.first; second = count })) first more
      unfolding payload_number after progress_of
      second_taken {payload} {more} {t} {count} k u e it im = go (landed payload second more s.second _ safe.second_room it im)
        where
          held : length (take s.second second) ≡ s.second
          held = length-take-le s.second second (omega (arith, safe.second_most, safe.second_room))

          go : Landed payload second more s.second (record { number = 0; count = count })
              → LineTaken line s first second (Ok (record { turn = t; settings = s.settings; first = s.first; second = count })) first more
          go (rests p n l) = absurd (n refl)
          go (lands p n f g tk dr) =
              let m : line_number here line ≡ 0 = by_payload ∙ rw (k, held, ← e) p in
              record {
                number = sym m;
                progress = rw (m, same_kind, k, u, tk, e);
                first_most = safe.first_most;
                second_most = f;
                first_grows = omega arith;
                second_grows = g;
                first_rest = refl;
                second_rest = dr;
              }

      pub second_refused : {payload more : List ℕ} {e : FrameError} → kind ≡ 3 → payload ≡ payload_in line
          → record { number = number_of e; count = s.second } ≡ piece_taken payload s.second → more ≡ piece_left payload s.second second
          → LineTaken line s first second (Err e) first more
      unfolding payload_number progress_of
      second_refused {payload} {more} {e} k is it im = go (landed payload second more s.second _ safe.second_room it im)
        where
          held : length (take s.second second) ≡ s.second
          held = length-take-le s.second second (omega (arith, safe.second_most, safe.second_room))

          go : Landed payload second more s.second (record { number = number_of e; count = s.second }) → LineTaken line s first second (Err e) first more
          go (rests p n l) = subst⁻¹ (λ (x : List ℕ). LineTaken line s first second (Err e) first x) l (refuses e (by_payload ∙ rw (k, held, ← is) p))
          go (lands p n f g tk dr) = absurd (some_number e n)

      -- an end has no payload
      pub end_taken : {t : ℕ} → kind ≡ 4 → t ≡ 3 → size ≡ 0
          → LineTaken line s first second (Ok (record { turn = t; settings = s.settings; first = s.first; second = s.second })) first second
      unfolding payload_number size_number after progress_of
      end_taken k u n =
          let m : line_number here line ≡ 0 = by_payload ∙ rw (k, long_payload, n) in
          record {
            number = sym m;
            progress = rw (m, same_kind, k, u);
            first_most = safe.first_most;
            second_most = safe.second_most;
            first_grows = omega arith;
            second_grows = omega arith;
            first_rest = refl;
            second_rest = refl;
          }

      pub end_refused : kind ≡ 4 → (size ≡ 0 → ⊥) → LineTaken line s first second (Err WrongPayload) first second
      unfolding payload_number size_number progress_of
      end_refused k n = refuses WrongPayload (by_payload ∙ rw (k, long_payload, ne_eqb size 0 n))
