-- What does not fit: a job's value of more than 32 bits, and values that are no codes. And the cases of the two definitions, each from the kind that leads
-- to it. Assumes nothing.
use Rattle.std.proofs.Common.{◌≡◌, ℕ, ◌+◌, ◌<◌, Bool, true, false, eqb, ◌⊎◌, inl, inr, List, length, get_or, take, set, refl, sym, ◌∙◌, arith, add-one, eqb-true, eq-eqb, ne_eqb, []}
use lib.Seq.{take-suc, take-suc-set}
use Rattle.rules.specs.declared.Settings.{Settings}
use Rattle.lines.specs.declared.error.FrameError.{FrameError}
use Rattle.lines.specs.Errors.{number_of}
use Rattle.lines.proofs.Unique.{error_some}
use Rattle.lines.specs.Writing.{Written, written, leaves}
use Rattle.payloads.specs.Pieces.{codes_fit}
use Rattle.payloads.proofs.Pieces.{codes_parts, code_small}
use Rattle.kinds.specs.declared.kind.Kind.{Kind}
use Rattle.kinds.specs.Kind.{kind_byte}
use Rattle.kinds.specs.declared.Entry.{Entry}
use Rattle.kinds.specs.declared.Done.{Done}
use Rattle.kinds.specs.declared.Refused.{Refused}
use Rattle.kinds.specs.Kinds.{job_fits, job_line, piece_line, end_line, entry_fits, entry_line, reverse_line, done_fits, done_line, refused_fits, refused_line}
use Rattle.writers.proofs.Writers.{not_fitting}
use Rattle.readers.proofs.RoundTrip.{JobFits, job_parts}
use Rattle.readers.specs.Readers.{EntryRead, DoneRead, RefusedRead, read_entry, read_reverse, read_done, read_refused}
use Rattle.frames.specs.Frames.{entry_values, done_values, refused_values, job_of, entry_of, done_of, refused_of, Wanted, job_wanted, piece_wanted, none_wanted, frame_wanted, wanted_written, wanted_left, reply_of, numbers_read, read_frame}

-- ---- jobs

-- a job that fits has no value of more than 32 bits
pub wide_job : (c : Settings) → (JobFits c → ⊥) → job_fits c ≡ false
wide_job c h = go (job_fits c) refl
  where
    go : (t : Bool) → job_fits c ≡ t → t ≡ false
    go false e = refl
    go true e = absurd (h (job_parts c e))

-- ---- pieces

-- one value more is copied
pub copied_more : (values codes : List ℕ) (n : ℕ) {code : ℕ} → n < length values → n < length codes → code ≡ get_or values n 0 → take n codes ≡ take n values
    → take (n + 1) (set codes n code) ≡ take (n + 1) values
copied_more values codes n {code} h k e r = rw add-one (take-suc-set codes n code k ∙ rw (r, e) (sym (take-suc values n 0 h)))

-- what was left out is too many, or no code
pub left_out : (values codes : List ℕ) → length codes ≡ 128 → (length codes < length values) ⊎ ((n : ℕ) × (n < length values) × (255 < get_or values n 0))
    → codes_fit values ≡ false
left_out values codes room h = go (codes_fit values) refl
  where
    go : (t : Bool) → codes_fit values ≡ t → t ≡ false
    go false e = refl
    go true e =
        let p = codes_parts values e in
        elim h [ inl l ↦ absurd (omega (arith, p.few)) | inr w ↦ absurd (omega (arith, w.2, code_small values w.0 p.are)) ]

-- ---- writing

-- a frame that is wanted was written or refused
abbrev Answered : Wanted → List ℕ → Written → List ℕ → Type 0
Answered x out w left = (w ≡ wanted_written x out) × (left ≡ wanted_left x out)

pub not_fitting_wanted : (x : Wanted) (out : List ℕ) → x.fits ≡ false → Answered x out (record { number = 27; length = 0 }) out
unfolding wanted_written wanted_left
not_fitting_wanted x out e = not_fitting x.line out x.fits e

-- which frame it is, by the two promises that were made of it
pub passed_on : {x y : Wanted} (out : List ℕ) {w : Written} {left : List ℕ} → x ≡ y → w ≡ wanted_written y out → left ≡ wanted_left y out
    → Answered x out w left
passed_on out e a b = rw e (a, b)

-- or by its writer's
pub answered : {x y : Wanted} (out : List ℕ) {w : Written} {left : List ℕ} → x ≡ y → w ≡ written y.fits y.line out
    → left ≡ leaves y.fits y.line out → Answered x out w left
unfolding wanted_written wanted_left
answered out e a b = rw e (a, b)

-- a writer's refusal is told by 27
pub refused_reply : (e : FrameError) → reply_of (record { number = number_of e; length = 0 }) ≡ 4294967296 + 27
unfolding reply_of
refused_reply e = rw (ne_eqb (number_of e) 0 (λ h. omega (arith, error_some e)))

-- ---- the frame of a kind

module _ (kind : ℕ) {v codes : List ℕ} where
  pub first_piece : codes ≡ v → piece_wanted 2 v ≡ record { fits = codes_fit codes; line = piece_line 1 codes }
  unfolding piece_wanted
  first_piece e = rw e

  pub second_piece : (kind ≡ 2 → ⊥) → codes ≡ v → piece_wanted kind v ≡ record { fits = codes_fit codes; line = piece_line 2 codes }
  unfolding piece_wanted
  second_piece k e = rw (ne_eqb kind 2 k, e)

module _ {kind : ℕ} (v : List ℕ) where
  pub is_job : {c : Settings} → 1 ≡ kind → length v ≡ 5 → c ≡ job_of v → frame_wanted kind v ≡ record { fits = job_fits c; line = job_line c }
  unfolding frame_wanted job_wanted
  is_job k n e = rw (← k) (rw (eq-eqb (length v) 5 n, e))

  pub job_misfit : 1 ≡ kind → (length v ≡ 5 → job_fits (job_of v) ≡ false) → (frame_wanted kind v).fits ≡ false
  unfolding frame_wanted job_wanted none_wanted
  job_misfit k h = rw (← k) (go (eqb (length v) 5) refl)
    where
      go : (t : Bool) → eqb (length v) 5 ≡ t → (frame_wanted 1 v).fits ≡ false
      go true e = rw e (h (eqb-true (length v) 5 e))
      go false e = rw e

  pub is_piece : 2 ≡ kind ⊎ 3 ≡ kind → frame_wanted kind v ≡ piece_wanted kind v
  unfolding frame_wanted
  is_piece (inl k) = rw (← k)
  is_piece (inr k) = rw (← k)

  pub is_end : 4 ≡ kind → length v ≡ 0 → frame_wanted kind v ≡ record { fits = true; line = end_line }
  unfolding frame_wanted
  is_end k n = rw (← k) (rw (eq-eqb (length v) 0 n))

  pub end_misfit : 4 ≡ kind → (length v ≡ 0 → ⊥) → (frame_wanted kind v).fits ≡ false
  unfolding frame_wanted none_wanted
  end_misfit k n = rw (← k) (rw (ne_eqb (length v) 0 n))

  pub is_entry : {x : Entry} → 16 ≡ kind → length v ≡ 5 → x ≡ entry_of v → frame_wanted kind v ≡ record { fits = entry_fits x; line = entry_line x }
  unfolding frame_wanted
  is_entry k n e = rw (← k) (rw (eq-eqb (length v) 5 n, e))

  pub entry_misfit : 16 ≡ kind → (length v ≡ 5 → ⊥) → (frame_wanted kind v).fits ≡ false
  unfolding frame_wanted none_wanted
  entry_misfit k n = rw (← k) (rw (ne_eqb (length v) 5 n))

  pub is_done : {x : Done} → 17 ≡ kind → length v ≡ 4 → x ≡ done_of v → frame_wanted kind v ≡ record { fits = done_fits x; line = done_line x }
  unfolding frame_wanted
  is_done k n e = rw (← k) (rw (eq-eqb (length v) 4 n, e))

  pub done_misfit : 17 ≡ kind → (length v ≡ 4 → ⊥) → (frame_wanted kind v).fits ≡ false
  unfolding frame_wanted none_wanted
  done_misfit k n = rw (← k) (rw (ne_eqb (length v) 4 n))

  pub is_reverse : {x : Entry} → 18 ≡ kind → length v ≡ 5 → x ≡ entry_of v → frame_wanted kind v ≡ record { fits = entry_fits x; line = reverse_line x }
  unfolding frame_wanted
  is_reverse k n e = rw (← k) (rw (eq-eqb (length v) 5 n, e))

  pub reverse_misfit : 18 ≡ kind → (length v ≡ 5 → ⊥) → (frame_wanted kind v).fits ≡ false
  unfolding frame_wanted none_wanted
  reverse_misfit k n = rw (← k) (rw (ne_eqb (length v) 5 n))

  pub is_refused : {x : Refused} → 31 ≡ kind → length v ≡ 3 → x ≡ refused_of v → frame_wanted kind v ≡ record { fits = refused_fits x; line = refused_line x }
  unfolding frame_wanted
  is_refused k n e = rw (← k) (rw (eq-eqb (length v) 3 n, e))

  pub refused_misfit : 31 ≡ kind → (length v ≡ 3 → ⊥) → (frame_wanted kind v).fits ≡ false
  unfolding frame_wanted none_wanted
  refused_misfit k n = rw (← k) (rw (ne_eqb (length v) 3 n))

-- a kind that there is not
module _ (n : ℕ) (h : (k : Kind) → kind_byte k ≡ n → ⊥) where
  not_kind : (k : Kind) → eqb n (kind_byte k) ≡ false
  not_kind k = ne_eqb n (kind_byte k) (λ e. h k (sym e))

  pub no_kind : (v : List ℕ) → (frame_wanted n v).fits ≡ false
  unfolding frame_wanted none_wanted
  no_kind v =
      rw (not_kind Kind.Job, not_kind Kind.FirstPiece, not_kind Kind.SecondPiece, not_kind Kind.End, not_kind Kind.Entry, not_kind Kind.Done, not_kind Kind.ReverseEntry, not_kind Kind.Refused)

  pub no_reader : (line : List ℕ) → numbers_read 23 [] ≡ read_frame n line
  unfolding read_frame
  no_reader line = rw (not_kind Kind.Entry, not_kind Kind.Done, not_kind Kind.ReverseEntry, not_kind Kind.Refused)

-- ---- a kind that has a reader, or has none

module _ {kind : ℕ} (line : List ℕ) where
  pub entry_read : {x : EntryRead} → 16 ≡ kind → x ≡ read_entry line → numbers_read x.number (entry_values x.entry) ≡ read_frame kind line
  unfolding read_frame
  entry_read k e = rw (← k) (rw e)

  pub done_read : {x : DoneRead} → 17 ≡ kind → x ≡ read_done line → numbers_read x.number (done_values x.done) ≡ read_frame kind line
  unfolding read_frame
  done_read k e = rw (← k) (rw e)

  pub reverse_read : {x : EntryRead} → 18 ≡ kind → x ≡ read_reverse line → numbers_read x.number (entry_values x.entry) ≡ read_frame kind line
  unfolding read_frame
  reverse_read k e = rw (← k) (rw e)

  pub refused_read : {x : RefusedRead} → 31 ≡ kind → x ≡ read_refused line → numbers_read x.number (refused_values x.refused) ≡ read_frame kind line
  unfolding read_frame
  refused_read k e = rw (← k) (rw e)

-- a job, a piece or an end
pub unread : (k : Kind) (line : List ℕ) → (k ≡ Kind.Entry → ⊥) → (k ≡ Kind.Done → ⊥) → (k ≡ Kind.ReverseEntry → ⊥) → (k ≡ Kind.Refused → ⊥)
    → numbers_read 23 [] ≡ read_frame (kind_byte k) line
unfolding read_frame
unread Kind.Job line e d r f = refl
unread Kind.FirstPiece line e d r f = refl
unread Kind.SecondPiece line e d r f = refl
unread Kind.End line e d r f = refl
unread Kind.Entry line e d r f = absurd (e refl)
unread Kind.Done line e d r f = absurd (d refl)
unread Kind.ReverseEntry line e d r f = absurd (r refl)
unread Kind.Refused line e d r f = absurd (f refl)
