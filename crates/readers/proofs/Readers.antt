-- A reader's ways out: each refusal is one case of the definition, and a good line's bytes stand in front of those that were read. Assumes nothing.
use mathlib.Core.Path.{◌≡◌, refl, ◌∙◌}
use mathlib.Core.Bool.{Bool, true, false}
use mathlib.Core.List.{List}
use Prim.Native.Nat.{ℕ, ◌+◌, ◌<◌, ◌≤◌}
use native.Mathlib.Omega.{arith}
use lib.Dec.{eqb}
use lib.ListN.{length, get_or}
use lib.Seq.{sets}
use borrow.Author.Tests.{ne_eqb, eqb-true, eqb-false}
use Rattle.decoding.specs.Digits.{is_line, bytes_in}
use Rattle.decoding.specs.Reading.{frame_in, bytes_left}
use Rattle.decoding.proofs.Decoding.{byte_at}
use Rattle.decoding.proofs.Frames.{count_most, frame_read}
use Rattle.payloads.specs.Lines.{kind_number}
use Rattle.std.proofs.Common.{Result, Ok, Err, IfOk}
use Rattle.lines.specs.declared.error.FrameError.{FrameError}
use Rattle.lines.specs.Errors.{number_of, number_in}
use Rattle.lines.proofs.Unique.{error_some}
use Rattle.kinds.specs.declared.Entry.{Entry}
use Rattle.kinds.specs.declared.Done.{Done}
use Rattle.kinds.specs.declared.Refused.{Refused}
use Rattle.kinds.specs.Carried.{entry_in, done_in, refused_in}
use Rattle.readers.specs.Readers.{entry_numbered, done_numbered, refused_numbered, read_entry_of, read_done, read_refused}

-- what is known of a line that has its kind
record KindRead (kind size : ℕ) (line : List ℕ) : Type 0 where
  ok : is_line line ≡ true
  long : length (bytes_in line) ≡ size + 3

kind_read : (kind size : ℕ) (line : List ℕ) → kind_number kind size line ≡ 0 → KindRead kind size line
unfolding kind_number
kind_read kind size line z = go (eqb (frame_in line).number 0) (eqb (frame_in line).kind kind) (eqb (frame_in line).size size) refl refl refl
  where
    go : (a b d : Bool) → eqb (frame_in line).number 0 ≡ a → eqb (frame_in line).kind kind ≡ b → eqb (frame_in line).size size ≡ d → KindRead kind size line
    go false b d p q r = absurd (eqb-false (frame_in line).number 0 p (rw p at z))
    go true false d p q r = let n = rw (p, q) at z in absurd (omega arith)
    go true true false p q r = let n = rw (p, q, r) at z in absurd (omega arith)
    go true true true p q r =
        let f = frame_read line (eqb-true (frame_in line).number 0 p) in
        record { ok = f.ok; long = omega (arith, f.long, f.size, eqb-true (frame_in line).size size r) }

wrong : (e : FrameError) → number_of e ≡ 0 → ⊥
wrong e z = omega (arith, error_some e)

-- the bytes of a good line stand in front of the bytes read
pub bytes_read : (kind size : ℕ) (line old bytes : List ℕ) → size ≤ 64 → 67 ≤ length old → bytes ≡ bytes_left line old → kind_number kind size line ≡ 0
    → (i : ℕ) → i < size + 2 → get_or bytes i 0 ≡ get_or (bytes_in line) i 0
unfolding bytes_left
bytes_read kind size line old bytes few room left z i h =
    let r = kind_read kind size line z in
    let s : bytes ≡ sets old 0 (bytes_in line) = left ∙ rw r.ok in
    rw s (byte_at line old i (omega (arith, r.long)) (omega (arith, count_most line r.ok)))

-- a number and values make what a reader answers
pub entry_answer : (kind : ℕ) (line : List ℕ) (r : Result Entry FrameError) → number_in r ≡ kind_number kind 10 line
    → IfOk r (λ x. x ≡ entry_in (bytes_in line)) → entry_numbered r ≡ read_entry_of kind line
unfolding read_entry_of
entry_answer kind line (Ok x) n v = rw (← n, v)
entry_answer kind line (Err e) n v = rw (← n) (rw (ne_eqb (number_of e) 0 (wrong e)))

pub done_answer : (line : List ℕ) (r : Result Done FrameError) → number_in r ≡ kind_number 17 20 line
    → IfOk r (λ x. x ≡ done_in (bytes_in line)) → done_numbered r ≡ read_done line
unfolding read_done
done_answer line (Ok x) n v = rw (← n, v)
done_answer line (Err e) n v = rw (← n) (rw (ne_eqb (number_of e) 0 (wrong e)))

pub refused_answer : (line : List ℕ) (r : Result Refused FrameError) → number_in r ≡ kind_number 31 6 line
    → IfOk r (λ x. x ≡ refused_in (bytes_in line)) → refused_numbered r ≡ read_refused line
unfolding read_refused
refused_answer line (Ok x) n v = rw (← n, v)
refused_answer line (Err e) n v = rw (← n) (rw (ne_eqb (number_of e) 0 (wrong e)))
