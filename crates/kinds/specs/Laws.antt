-- The numbers of a payload stand where they were put, so that values that fit are read back. Assumes nothing.
use mathlib.Core.Path.{◌≡◌, refl}
use mathlib.Core.Bool.{true, ◌&&◌}
use mathlib.Core.List.{List}
use Prim.Native.Nat.{ℕ, ◌+◌, ◌^◌, ◌<◌, ◌≤◌}
use native.Mathlib.Omega.{arith}
use lib.Dec.{ltb, lit≤}
use lib.ListN.{get_or, take, drop}
use borrow.Author.Tests.{ltb-true}
use Rattle.lines.specs.Writing.{frame_of}
use Rattle.decoding.proofs.Decoding.{and_left, and_right}
use Rattle.decoding.proofs.RoundTrip.{Bytes, bytes_append}
use Rattle.kinds.specs.declared.Entry.{Entry}
use Rattle.kinds.specs.declared.Done.{Done}
use Rattle.kinds.specs.declared.Refused.{Refused}
use Rattle.payloads.specs.Numbers.{number_bytes, number_at}
use Rattle.payloads.proofs.Numbers.{number_bytes_lem, number_back, number_same}
use Rattle.kinds.specs.Kinds.{entry_payload, entry_fits, done_payload, done_fits, refused_payload, refused_fits}
use Rattle.kinds.specs.Carried.{Carries, entry_in, entry_held, done_in, done_held, refused_in, refused_held}

-- a number stands where its bytes do
same : (size : ℕ) (bs cs : List ℕ) → ((i : ℕ) → i < size + 2 → get_or bs i 0 ≡ get_or cs i 0) → (at width : ℕ) → at + width ≤ size + 2
    → number_at bs at width ≡ number_at cs at width
same size bs cs e at width h = number_same bs cs at width (λ i l. e i (omega arith))

-- ---- entries

record EntryFits (x : Entry) : Type 0 where
  first_start : x.first.start < 65536
  first_end : x.first.end < 65536
  second_start : x.second.start < 65536
  second_end : x.second.end < 65536
  weight_fits : x.weight < 65536

entry_parts : (x : Entry) → entry_fits x ≡ true → EntryFits x
unfolding entry_fits
entry_parts x h =
    let a = ltb x.first.start 65536 in
    let b = ltb x.first.end 65536 in
    let c = ltb x.second.start 65536 in
    let d = ltb x.second.end 65536 in
    let e = ltb x.weight 65536 in
    let abcd = and_left (a && b && c && d) e h in
    let abc = and_left (a && b && c) d abcd in
    let ab = and_left (a && b) c abc in
    record {
      first_start = ltb-true x.first.start 65536 (and_left a b ab);
      first_end = ltb-true x.first.end 65536 (and_right a b ab);
      second_start = ltb-true x.second.start 65536 (and_right (a && b) c abc);
      second_end = ltb-true x.second.end 65536 (and_right (a && b && c) d abcd);
      weight_fits = ltb-true x.weight 65536 (and_right (a && b && c && d) e h);
    }

pub entry_frame : (kind : ℕ) (x : Entry) → entry_fits x ≡ true → entry_in (frame_of kind (entry_payload x)) ≡ x
unfolding entry_in frame_of entry_payload number_bytes
entry_frame kind x h =
    let f = frame_of kind (entry_payload x) in
    let p = entry_parts x h in
    let a : number_at f 2 2 ≡ x.first.start = number_back (take 2 f) (drop 4 f) 2 x.first.start p.first_start in
    let b : number_at f 4 2 ≡ x.first.end = number_back (take 4 f) (drop 6 f) 2 x.first.end p.first_end in
    let c : number_at f 6 2 ≡ x.second.start = number_back (take 6 f) (drop 8 f) 2 x.second.start p.second_start in
    let d : number_at f 8 2 ≡ x.second.end = number_back (take 8 f) (drop 10 f) 2 x.second.end p.second_end in
    let e : number_at f 10 2 ≡ x.weight = number_back (take 10 f) (drop 12 f) 2 x.weight p.weight_fits in
    rw (a, b, c, d, e)

entry_alone : (bs cs : List ℕ) → ((i : ℕ) → i < 12 → get_or bs i 0 ≡ get_or cs i 0) → entry_in bs ≡ entry_in cs
unfolding entry_in
entry_alone bs cs e =
    rw (same 10 bs cs e 2 2 (lit≤ tt), same 10 bs cs e 4 2 (lit≤ tt), same 10 bs cs e 6 2 (lit≤ tt), same 10 bs cs e 8 2 (lit≤ tt), same 10 bs cs e 10 2 (lit≤ tt))

pub entry_bytes : (x : Entry) → Bytes (entry_payload x)
unfolding entry_payload
entry_bytes x =
    bytes_append (bytes_append (bytes_append (bytes_append (number_bytes_lem 2 x.first.start) (number_bytes_lem 2 x.first.end))
    (number_bytes_lem 2 x.second.start)) (number_bytes_lem 2 x.second.end)) (number_bytes_lem 2 x.weight)

pub entry_carries : Carries 10 entry_fits entry_payload entry_in entry_held
unfolding entry_payload number_bytes
entry_carries = record { few = lit≤ tt; sized = λ x. refl; bytes = entry_bytes; alone = entry_alone; back = λ kind x l h. entry_frame kind x h }

-- ---- done

record DoneFits (x : Done) : Type 0 where
  listed_fits : x.listed < 4294967296
  matches_fit : x.matches < 4294967296
  widest_fits : x.widest < 4294967296

done_parts : (x : Done) → done_fits x ≡ true → DoneFits x
unfolding done_fits
done_parts x h =
    let a = ltb x.listed 4294967296 in
    let b = ltb x.matches 4294967296 in
    let c = ltb x.widest 4294967296 in
    let ab = and_left (a && b) c h in
    record {
      listed_fits = ltb-true x.listed 4294967296 (and_left a b ab);
      matches_fit = ltb-true x.matches 4294967296 (and_right a b ab);
      widest_fits = ltb-true x.widest 4294967296 (and_right (a && b) c h);
    }

pub done_frame : (kind : ℕ) (x : Done) → done_fits x ≡ true → x.links < 2 ^ 64 → done_in (frame_of kind (done_payload x)) ≡ x
unfolding done_in frame_of done_payload number_bytes
done_frame kind x h l =
    let f = frame_of kind (done_payload x) in
    let p = done_parts x h in
    let a : number_at f 2 4 ≡ x.listed = number_back (take 2 f) (drop 6 f) 4 x.listed p.listed_fits in
    let b : number_at f 6 4 ≡ x.matches = number_back (take 6 f) (drop 10 f) 4 x.matches p.matches_fit in
    let c : number_at f 10 4 ≡ x.widest = number_back (take 10 f) (drop 14 f) 4 x.widest p.widest_fits in
    let d : number_at f 14 8 ≡ x.links = number_back (take 14 f) (drop 22 f) 8 x.links l in
    rw (a, b, c, d)

done_alone : (bs cs : List ℕ) → ((i : ℕ) → i < 22 → get_or bs i 0 ≡ get_or cs i 0) → done_in bs ≡ done_in cs
unfolding done_in
done_alone bs cs e =
    rw (same 20 bs cs e 2 4 (lit≤ tt), same 20 bs cs e 6 4 (lit≤ tt), same 20 bs cs e 10 4 (lit≤ tt), same 20 bs cs e 14 8 (lit≤ tt))

pub done_bytes : (x : Done) → Bytes (done_payload x)
unfolding done_payload
done_bytes x =
    bytes_append (bytes_append (bytes_append (number_bytes_lem 4 x.listed) (number_bytes_lem 4 x.matches)) (number_bytes_lem 4 x.widest))
    (number_bytes_lem 8 x.links)

pub done_carries : Carries 20 done_fits done_payload done_in done_held
unfolding done_payload number_bytes
done_carries = record { few = lit≤ tt; sized = λ x. refl; bytes = done_bytes; alone = done_alone; back = λ kind x l h. done_frame kind x h l }

-- ---- refused

record RefusedFits (x : Refused) : Type 0 where
  number_fits : x.number < 256
  sequence_fits : x.sequence < 256
  detail_fits : x.detail < 4294967296

refused_parts : (x : Refused) → refused_fits x ≡ true → RefusedFits x
unfolding refused_fits
refused_parts x h =
    let a = ltb x.number 256 in
    let b = ltb x.sequence 256 in
    let c = ltb x.detail 4294967296 in
    let ab = and_left (a && b) c h in
    record {
      number_fits = ltb-true x.number 256 (and_left a b ab);
      sequence_fits = ltb-true x.sequence 256 (and_right a b ab);
      detail_fits = ltb-true x.detail 4294967296 (and_right (a && b) c h);
    }

pub refused_frame : (kind : ℕ) (x : Refused) → refused_fits x ≡ true → refused_in (frame_of kind (refused_payload x)) ≡ x
unfolding refused_in frame_of refused_payload number_bytes
refused_frame kind x h =
    let f = frame_of kind (refused_payload x) in
    let p = refused_parts x h in
    let a : number_at f 2 1 ≡ x.number = number_back (take 2 f) (drop 3 f) 1 x.number p.number_fits in
    let b : number_at f 3 1 ≡ x.sequence = number_back (take 3 f) (drop 4 f) 1 x.sequence p.sequence_fits in
    let c : number_at f 4 4 ≡ x.detail = number_back (take 4 f) (drop 8 f) 4 x.detail p.detail_fits in
    rw (a, b, c)

refused_alone : (bs cs : List ℕ) → ((i : ℕ) → i < 8 → get_or bs i 0 ≡ get_or cs i 0) → refused_in bs ≡ refused_in cs
unfolding refused_in
refused_alone bs cs e = rw (same 6 bs cs e 2 1 (lit≤ tt), same 6 bs cs e 3 1 (lit≤ tt), same 6 bs cs e 4 4 (lit≤ tt))

pub refused_bytes : (x : Refused) → Bytes (refused_payload x)
unfolding refused_payload
refused_bytes x =
    bytes_append (bytes_append (number_bytes_lem 1 x.number) (number_bytes_lem 1 x.sequence)) (number_bytes_lem 4 x.detail)

pub refused_carries : Carries 6 refused_fits refused_payload refused_in refused_held
unfolding refused_payload number_bytes
refused_carries = record { few = lit≤ tt; sized = λ x. refl; bytes = refused_bytes; alone = refused_alone; back = λ kind x l h. refused_frame kind x h }
