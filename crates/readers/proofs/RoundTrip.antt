-- What is written is read back: a line gives its payload, and each number of it stands where it was put. So no two values have the same line. Assumes nothing.
use mathlib.Core.Path.{◌≡◌, refl, sym, ap, ◌∙◌}
use mathlib.Core.Bool.{Bool, true, ◌&&◌}
use mathlib.Core.List.{List, [], ◌∷◌, ◌++◌}
use Prim.Native.Nat.{ℕ, ◌+◌, ◌^◌, ◌<◌, ◌≤◌}
use native.Mathlib.Omega.{arith}
use lib.Dec.{ltb, lit<}
use lib.ListN.{length, take, drop}
use borrow.Author.Tests.{ltb-true, eq-eqb}
use Rattle.rules.specs.declared.Settings.{Settings}
use Rattle.rules.specs.Entered.{settings}
use Rattle.decoding.specs.Digits.{bytes_in}
use Rattle.lines.specs.Writing.{check_of, frame_of, line_of}
use Rattle.decoding.proofs.Decoding.{and_left, and_right}
use Rattle.decoding.proofs.RoundTrip.{Bytes, line_bytes, line_read, line_unique}
use Rattle.kinds.specs.declared.Entry.{Entry}
use Rattle.kinds.specs.declared.Done.{Done}
use Rattle.kinds.specs.declared.Refused.{Refused}
use Rattle.payloads.specs.Numbers.{number_bytes, number_at}
use Rattle.payloads.specs.Pieces.{code_bytes, codes_in, codes_fit}
use Rattle.kinds.specs.Kinds.{job_numbers, job_payload, job_fits, job_line, piece_line, entry_payload, entry_fits, entry_line, reverse_line, done_fits, done_line, refused_fits, refused_line}
use Rattle.payloads.specs.Lines.{kind_number}
use Rattle.kinds.specs.Carried.{Carries}
use Rattle.kinds.specs.Laws.{entry_bytes, entry_carries, done_carries, refused_carries}
use Rattle.readers.specs.Readers.{EntryRead, DoneRead, RefusedRead, strand_in, job_in, read_entry_of, read_entry, read_reverse, read_done, read_refused}
use Rattle.payloads.proofs.Numbers.{number_back}
use Rattle.payloads.proofs.Pieces.{codes_parts, few_bytes, packed_are_bytes, codes_back}
use Rattle.kinds.proofs.Jobs.{job_bytes, JobForm, forward, stranded, job_form, job_few, job_are_bytes}

-- a line has the kind and the size that it was written with
pub kind_written : (kind size : ℕ) (payload : List ℕ) → kind < 256 → length payload ≤ 64 → Bytes payload → length payload ≡ size
    → kind_number kind size (line_of kind payload) ≡ 0
unfolding kind_number
kind_written kind size payload k h b e = rw (line_read kind payload k h b) (rw (eq-eqb kind kind refl, eq-eqb (length payload) size e))

-- ---- jobs

pub record JobFits (x : Settings) : Type 0 where
  pub k_fits : x.k < 256
  pub b_fits : x.b < 65536
  pub a_fits : x.a < 65536
  pub m_fits : x.m < 65536
  pub strand_fits : x.strand < 256
  pub no_mask : x.mask ≡ 0

pub job_parts : (x : Settings) → job_fits x ≡ true → JobFits x
unfolding job_fits
job_parts x h =
    let k = ltb x.k 256 in
    let b = ltb x.b 65536 in
    let a = ltb x.a 65536 in
    let m = ltb x.m 65536 in
    let s = ltb x.strand 256 in
    let o = ltb x.mask 1 in
    let kbams = and_left (k && b && a && m && s) o h in
    let kbam = and_left (k && b && a && m) s kbams in
    let kba = and_left (k && b && a) m kbam in
    let kb = and_left (k && b) a kba in
    record {
      k_fits = ltb-true x.k 256 (and_left k b kb);
      b_fits = ltb-true x.b 65536 (and_right k b kb);
      a_fits = ltb-true x.a 65536 (and_right (k && b) a kba);
      m_fits = ltb-true x.m 65536 (and_right (k && b && a) m kbam);
      strand_fits = ltb-true x.strand 256 (and_right (k && b && a && m) s kbams);
      no_mask = (let l = ltb-true x.mask 1 (and_right (k && b && a && m && s) o h) in omega arith);
    }

-- the first four numbers stand where they do whatever comes behind them, and the strand is as the size says
numbers_back : (x : Settings) (size : ℕ) (rest : List ℕ) → JobFits x → strand_in size (1 ∷ size ∷ (job_numbers x ++ rest)) ≡ x.strand
    → job_in size (1 ∷ size ∷ (job_numbers x ++ rest)) ≡ x
unfolding job_in job_numbers number_bytes
numbers_back x size rest p s =
    let f : List ℕ = 1 ∷ size ∷ (job_numbers x ++ rest) in
    let k : number_at f 2 1 ≡ x.k = number_back (take 2 f) (drop 3 f) 1 x.k p.k_fits in
    let b : number_at f 3 2 ≡ x.b = number_back (take 3 f) (drop 5 f) 2 x.b p.b_fits in
    let a : number_at f 5 2 ≡ x.a = number_back (take 5 f) (drop 7 f) 2 x.a p.a_fits in
    let m : number_at f 7 2 ≡ x.m = number_back (take 7 f) (drop 9 f) 2 x.m p.m_fits in
    rw (k, b, a, m, s) (λ i. settings x.k x.b x.a x.m x.strand (sym p.no_mask i))

-- a job of either size gives its settings back
pub job_frame : (x : Settings) → job_fits x ≡ true → job_in (length (job_payload x)) (frame_of 1 (job_payload x)) ≡ x
unfolding frame_of job_numbers number_bytes strand_in
job_frame x h = go (job_form x)
  where
    go : JobForm x → job_in (length (job_payload x)) (frame_of 1 (job_payload x)) ≡ x
    go (forward z e) = rw e (numbers_back x 7 (check_of (1 ∷ 7 ∷ job_numbers x) ∷ []) (job_parts x h) (sym z))
    go (stranded n e) =
        let bs : List ℕ = 1 ∷ 8 ∷ job_bytes x in
        let s = number_back (take 9 bs) (check_of bs ∷ []) 1 x.strand (job_parts x h).strand_fits in
        rw e (numbers_back x 8 (number_bytes 1 x.strand ++ (check_of bs ∷ [])) (job_parts x h) s)

pub job_unique : (x y : Settings) → job_fits x ≡ true → job_fits y ≡ true → job_line x ≡ job_line y → x ≡ y
unfolding job_line
job_unique x y h g e =
    let p = (line_unique 1 (job_payload x) 1 (job_payload y) (lit< tt) (job_few x) (job_are_bytes x) (lit< tt) (job_few y) (job_are_bytes y) e).1 in
    sym (job_frame x h) ∙ ap (λ (l : List ℕ). job_in (length l) (frame_of 1 l)) p ∙ job_frame y g

-- ---- pieces

-- the codes of a written piece, read back, and whose piece it is
pub piece_codes : (x : List ℕ) → codes_fit x ≡ true → codes_in (code_bytes x) ≡ x
piece_codes x h = codes_back x (codes_parts x h).are

pub piece_unique : (s : ℕ) (x : List ℕ) (t : ℕ) (y : List ℕ) → s ≤ 2 → t ≤ 2 → codes_fit x ≡ true → codes_fit y ≡ true → piece_line s x ≡ piece_line t y
    → (s ≡ t) × (x ≡ y)
unfolding piece_line
piece_unique s x t y l m h g e =
    let p = codes_parts x h in
    let q = codes_parts y g in
    let a : 1 + s < 256 = omega arith in
    let b : 1 + t < 256 = omega arith in
    let c = few_bytes x h in
    let d = few_bytes y g in
    let u = line_unique (1 + s) (code_bytes x) (1 + t) (code_bytes y) a c (packed_are_bytes x p.are) b d (packed_are_bytes y q.are) e in
    (omega (arith, u.0), sym (piece_codes x h) ∙ ap codes_in u.1 ∙ piece_codes y g)

-- ---- values

-- values that fit are read back from their line: it has the kind and the size, and they stand in its bytes
values_back : {S : Type 0} {size : ℕ} {fits : S → Bool} {payload : S → List ℕ} {values : List ℕ → S} {held : S → Type 0}
    → Carries size fits payload values held → (kind : ℕ) (x : S) → kind < 256 → held x → fits x ≡ true
    → (kind_number kind size (line_of kind (payload x)) ≡ 0) × (values (bytes_in (line_of kind (payload x))) ≡ x)
values_back {size = size} {payload = payload} {values = values} laws kind x k l h =
    let few : length (payload x) ≤ 64 = omega (arith, laws.sized x, laws.few) in (
      kind_written kind size (payload x) k few (laws.bytes x) (laws.sized x),
      ap values (line_bytes kind (payload x) k few (laws.bytes x)) ∙ laws.back kind x l h,
    )

-- ---- entries

-- what the writer of either strand's entries writes, its reader reads back
kind_round_trip : (kind : ℕ) (x : Entry) → kind < 256 → entry_fits x ≡ true
    → read_entry_of kind (line_of kind (entry_payload x)) ≡ record { number = 0; sequence = 0; detail = 0; entry = x }
unfolding read_entry_of
kind_round_trip kind x k h = let p = values_back entry_carries kind x k tt h in rw p.0 (rw p.1)

kind_unique : (kind : ℕ) (x y : Entry) → kind < 256 → entry_fits x ≡ true → entry_fits y ≡ true
    → line_of kind (entry_payload x) ≡ line_of kind (entry_payload y) → x ≡ y
kind_unique kind x y k h g e =
    let t = sym (kind_round_trip kind x k h) ∙ ap (read_entry_of kind) e ∙ kind_round_trip kind y k g in
    ap (λ (r : EntryRead). r.entry) t

pub entry_round_trip : (x : Entry) → entry_fits x ≡ true → read_entry (entry_line x) ≡ record { number = 0; sequence = 0; detail = 0; entry = x }
unfolding read_entry entry_line
entry_round_trip x h = kind_round_trip 16 x (lit< tt) h

pub entry_unique : (x y : Entry) → entry_fits x ≡ true → entry_fits y ≡ true → entry_line x ≡ entry_line y → x ≡ y
unfolding entry_line
entry_unique x y h g e = kind_unique 16 x y (lit< tt) h g e

pub reverse_round_trip : (x : Entry) → entry_fits x ≡ true → read_reverse (reverse_line x) ≡ record { number = 0; sequence = 0; detail = 0; entry = x }
unfolding read_reverse reverse_line
reverse_round_trip x h = kind_round_trip 18 x (lit< tt) h

pub reverse_unique : (x y : Entry) → entry_fits x ≡ true → entry_fits y ≡ true → reverse_line x ≡ reverse_line y → x ≡ y
unfolding reverse_line
reverse_unique x y h g e = kind_unique 18 x y (lit< tt) h g e

-- no line is a forward entry's and a reverse one's
pub strands_apart : (x y : Entry) → entry_line x ≡ reverse_line y → ⊥
unfolding entry_line reverse_line entry_payload number_bytes
strands_apart x y e =
    let u = (line_unique 16 (entry_payload x) 18 (entry_payload y) (lit< tt) (lit< tt) (entry_bytes x) (lit< tt) (lit< tt) (entry_bytes y) e).0 in
    omega arith

-- ---- done

-- what the writer writes, the reader reads back
pub done_round_trip : (x : Done) → done_fits x ≡ true → x.links < 2 ^ 64 → read_done (done_line x) ≡ record { number = 0; sequence = 0; detail = 0; done = x }
unfolding read_done done_line
done_round_trip x h l = let p = values_back done_carries 17 x (lit< tt) l h in rw p.0 (rw p.1)

pub done_unique : (x y : Done) → done_fits x ≡ true → done_fits y ≡ true → x.links < 2 ^ 64 → y.links < 2 ^ 64 → done_line x ≡ done_line y → x ≡ y
done_unique x y h g k l e =
    let t = sym (done_round_trip x h k) ∙ ap read_done e ∙ done_round_trip y g l in
    ap (λ (r : DoneRead). r.done) t

-- ---- refused

-- what the writer writes, the reader reads back
pub refused_round_trip : (x : Refused) → refused_fits x ≡ true → read_refused (refused_line x) ≡ record { number = 0; sequence = 0; detail = 0; refused = x }
unfolding read_refused refused_line
refused_round_trip x h = let p = values_back refused_carries 31 x (lit< tt) tt h in rw p.0 (rw p.1)

pub refused_unique : (x y : Refused) → refused_fits x ≡ true → refused_fits y ≡ true → refused_line x ≡ refused_line y → x ≡ y
refused_unique x y h g e =
    let t = sym (refused_round_trip x h) ∙ ap read_refused e ∙ refused_round_trip y g in
    ap (λ (r : RefusedRead). r.refused) t
