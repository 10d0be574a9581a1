-- What is written of a kind that has a reader is read back as the same values. Assumes nothing.
use mathlib.Core.Path.{◌≡◌, refl, sym, ◌∙◌}
use mathlib.Core.Bool.{Bool, true, false, cond}
use mathlib.Core.List.{List}
use Prim.Native.Nat.{ℕ, ◌^◌, ◌<◌}
use native.Mathlib.Omega.{arith}
use lib.Dec.{eqb, leb}
use lib.ListN.{length, get_or, take, drop, drop_of_length-le}
use lib.Seq.{take_at, drop-cons}
use borrow.Author.Tests.{eqb-true}
use Rattle.rules.specs.Lists.{then_zeros}
use Rattle.lines.specs.Writing.{is_written, written, in_front, leaves}
use Rattle.decoding.proofs.Decoding.{and_left}
use Rattle.kinds.specs.Kinds.{entry_fits, entry_line, reverse_line, done_fits, done_line, refused_fits, refused_line}
use Rattle.readers.specs.Readers.{read_entry, read_reverse, read_done, read_refused}
use Rattle.readers.proofs.RoundTrip.{entry_round_trip, reverse_round_trip, done_round_trip, refused_round_trip}
use Rattle.frames.specs.Frames.{entry_of, entry_values, done_of, done_values, refused_of, refused_values, Wanted, none_wanted, frame_wanted, wanted_written, wanted_left, reply_of, frame_reply, frame_left, numbers_read, read_frame}
use Rattle.frames.proofs.Frames.{is_entry, is_done, is_reverse, is_refused}

-- the kinds that have a reader
pub data HasReader : ℕ → Type 0 where
  entry : HasReader 16
  done : HasReader 17
  reverse : HasReader 18
  refused : HasReader 31

-- what each reader says, by its values
module _ (line : List ℕ) where
  reads_entry : read_frame 16 line ≡ numbers_read (read_entry line).number (entry_values (read_entry line).entry)
  unfolding read_frame
  reads_entry = refl

  reads_done : read_frame 17 line ≡ numbers_read (read_done line).number (done_values (read_done line).done)
  unfolding read_frame
  reads_done = refl

  reads_reverse : read_frame 18 line ≡ numbers_read (read_reverse line).number (entry_values (read_reverse line).entry)
  unfolding read_frame
  reads_reverse = refl

  reads_refused : read_frame 31 line ≡ numbers_read (read_refused line).number (refused_values (read_refused line).refused)
  unfolding read_frame
  reads_refused = refl

-- ---- so many values are those of the kind

entry_values_lem : (v : List ℕ) → length v ≡ 5 → entry_values (entry_of v) ≡ v
unfolding entry_values entry_of
entry_values_lem v l =
    sym (drop-cons v 0 0 (omega arith)
    ∙ rw (
      drop-cons v 1 0 (omega arith),
      drop-cons v 2 0 (omega arith),
      drop-cons v 3 0 (omega arith),
      drop-cons v 4 0 (omega arith),
      drop_of_length-le v {i = 5} (omega arith),
    ))

done_values_lem : (v : List ℕ) → length v ≡ 4 → done_values (done_of v) ≡ v
unfolding done_values done_of
done_values_lem v l =
    sym (drop-cons v 0 0 (omega arith)
    ∙ rw (drop-cons v 1 0 (omega arith), drop-cons v 2 0 (omega arith), drop-cons v 3 0 (omega arith), drop_of_length-le v {i = 4} (omega arith)))

refused_values_lem : (v : List ℕ) → length v ≡ 3 → refused_values (refused_of v) ≡ v
unfolding refused_values refused_of
refused_values_lem v l =
    sym (drop-cons v 0 0 (omega arith) ∙ rw (drop-cons v 1 0 (omega arith), drop-cons v 2 0 (omega arith), drop_of_length-le v {i = 3} (omega arith)))

-- ---- each kind

-- where a frame fits, it has its count of values
counted : (n m : ℕ) (x : Wanted) → (cond (eqb n m) x none_wanted).fits ≡ true → n ≡ m
unfolding none_wanted
counted n m x h = go (eqb n m) refl
  where
    never : false ≡ true → n ≡ m
    never e = cc

    go : (t : Bool) → eqb n m ≡ t → n ≡ m
    go true e = eqb-true n m e
    go false e = never (rw e at h)

module _ (v : List ℕ) where
  abbrev Back : ℕ → Type 0
  Back kind = (frame_wanted kind v).fits ≡ true → read_frame kind (frame_wanted kind v).line ≡ numbers_read 0 v

  entry_count : (frame_wanted 16 v).fits ≡ true → length v ≡ 5
  unfolding frame_wanted
  entry_count h = counted (length v) 5 (record { fits = entry_fits (entry_of v); line = entry_line (entry_of v) }) h

  entry_back : Back 16
  entry_back h =
      let l = entry_count h in
      let w = is_entry v refl l refl in
      rw w (reads_entry (entry_line (entry_of v)) ∙ rw (entry_round_trip (entry_of v) (rw w at h), entry_values_lem v l))

  done_count : (frame_wanted 17 v).fits ≡ true → length v ≡ 4
  unfolding frame_wanted
  done_count h = counted (length v) 4 (record { fits = done_fits (done_of v); line = done_line (done_of v) }) h

  done_back : get_or v 3 0 < 2 ^ 64 → Back 17
  unfolding done_of
  done_back k h =
      let l = done_count h in
      let w = is_done v refl l refl in
      rw w (reads_done (done_line (done_of v)) ∙ rw (done_round_trip (done_of v) (rw w at h) k, done_values_lem v l))

  reverse_count : (frame_wanted 18 v).fits ≡ true → length v ≡ 5
  unfolding frame_wanted
  reverse_count h = counted (length v) 5 (record { fits = entry_fits (entry_of v); line = reverse_line (entry_of v) }) h

  reverse_back : Back 18
  reverse_back h =
      let l = reverse_count h in
      let w = is_reverse v refl l refl in
      rw w (reads_reverse (reverse_line (entry_of v)) ∙ rw (reverse_round_trip (entry_of v) (rw w at h), entry_values_lem v l))

  refused_count : (frame_wanted 31 v).fits ≡ true → length v ≡ 3
  unfolding frame_wanted
  refused_count h = counted (length v) 3 (record { fits = refused_fits (refused_of v); line = refused_line (refused_of v) }) h

  refused_back : Back 31
  refused_back h =
      let l = refused_count h in
      let w = is_refused v refl l refl in
      rw w (reads_refused (refused_line (refused_of v)) ∙ rw (refused_round_trip (refused_of v) (rw w at h), refused_values_lem v l))

-- ---- all of them

-- a reply below 4,294,967,296 is the length of the line, which stands in front
module _ (w : Wanted) (out : List ℕ) where
  abbrev Stands : Type 0
  Stands = (w.fits ≡ true) × (take (reply_of (wanted_written w out)) (wanted_left w out) ≡ w.line)

  stands : reply_of (wanted_written w out) < 4294967296 → Stands
  unfolding reply_of wanted_written written wanted_left leaves is_written in_front
  stands h = go (is_written w.fits w.line out) refl
    where
      go : (t : Bool) → is_written w.fits w.line out ≡ t → Stands
      go true e = (
        and_left w.fits (leb (length w.line) (length out)) e,
        rw e (take_at w.line (drop (length w.line) out) (length w.line) refl),
      )
      go false e = let z = rw e at h in absurd (omega arith)

-- what is written of a kind that has a reader, its reader reads back: 0 and the same values, each a number of 64 bits
pub frame_round_trip : {kind : ℕ} (v out : List ℕ) → HasReader kind → ((i : ℕ) → get_or v i 0 < 2 ^ 64) → frame_reply kind v out < 4294967296
    → read_frame kind (take (frame_reply kind v out) (frame_left kind v out)) ≡ record { number = 0; values = then_zeros v 5 }
unfolding frame_reply frame_left numbers_read
frame_round_trip {kind} v out r k h =
    let s = stands (frame_wanted kind v) out h in
    rw s.1 (go r s.0)
  where
    go : {n : ℕ} → HasReader n → (frame_wanted n v).fits ≡ true → read_frame n (frame_wanted n v).line ≡ numbers_read 0 v
    go entry f = entry_back v f
    go done f = done_back v (k 3) f
    go reverse f = reverse_back v f
    go refused f = refused_back v f
