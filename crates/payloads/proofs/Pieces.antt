-- Codes in pieces: they are looked at one by one and packed two by two, what is ahead being still to come, and unpacked they are the same. Assumes nothing.
use mathlib.Core.Path.{◌≡◌, refl, sym, ap, subst, ◌∙◌}
use mathlib.Core.Bool.{Bool, true, ◌&&◌}
use mathlib.Core.List.{List, [], ◌∷◌}
use Prim.Native.Nat.{ℕ, zero, suc, ◌+◌, ◌*◌, ◌/◌, ◌%◌, ◌<◌, ◌≤◌}
use native.Mathlib.Omega.{arith}
use Rattle.std.specs.List.{list_all}
use lib.Dec.{leb}
use lib.ListN.{length, get_or, take, drop, set, length-set, drop_of_length-le}
use lib.Seq.{sets, take_at, drop-cons, drop-drop, get_or-drop}
use borrow.Author.Tests.{leb-true, ne_eqb}
use Rattle.decoding.proofs.Decoding.{and_left, and_right}
use Rattle.lines.proofs.Storing.{sets_front}
use Rattle.decoding.proofs.RoundTrip.{Bytes, none, more}
use Rattle.payloads.specs.Pieces.{all_codes, code_bytes, codes_in, codes_fit}

-- ---- are they codes

abbrev pub is_code : ℕ → Bool
is_code c = leb 1 c && leb c 15

pub codes_all : (codes : List ℕ) → list_all is_code codes ≡ all_codes codes
unfolding all_codes
codes_all [] = refl
codes_all (c ∷ cs) = ap (λ b. is_code c && b) (codes_all cs)

-- the first of some codes, and the rest
record Codes (c : ℕ) (cs : List ℕ) : Type 0 where
  least : 1 ≤ c
  most : c ≤ 15
  rest : all_codes cs ≡ true

code_parts : (c : ℕ) (cs : List ℕ) → all_codes (c ∷ cs) ≡ true → Codes c cs
unfolding all_codes
code_parts c cs h =
    let ab = and_left (leb 1 c && leb c 15) (all_codes cs) h in
    record {
      least = leb-true 1 c (and_left (leb 1 c) (leb c 15) ab);
      most = leb-true c 15 (and_right (leb 1 c) (leb c 15) ab);
      rest = and_right (leb 1 c && leb c 15) (all_codes cs) h;
    }

pub code_small : (codes : List ℕ) (i : ℕ) → all_codes codes ≡ true → get_or codes i 0 < 16
code_small [] i h = omega arith
code_small (c ∷ cs) zero h = omega (arith, (code_parts c cs h).most)
code_small (c ∷ cs) (suc i) h = code_small cs i (code_parts c cs h).rest

pub code_low : (codes : List ℕ) (i low : ℕ) → all_codes codes ≡ true → low ≡ get_or codes i 0 → low < 16
code_low codes i low h e = rw e (code_small codes i h)

-- ---- packing

-- one byte more, whether it takes one code or two
packed_step : (a : ℕ) (rest : List ℕ) → code_bytes (a ∷ rest) ≡ (a * 16 + get_or rest 0 0) ∷ code_bytes (drop 1 rest)
unfolding code_bytes
packed_step a [] = ap (λ (n : ℕ). n ∷ []) (omega arith)
packed_step a (b ∷ rest) = refl

-- the first n bytes are stored, and the codes from 2 * n are still to come
pub record Packing (codes before payload : List ℕ) (n : ℕ) : Type 0 where
  pub long : length payload ≡ length before
  pub stored : sets payload n (code_bytes (drop (2 * n) codes)) ≡ sets before 0 (code_bytes codes)
  pub counted : n + length (code_bytes (drop (2 * n) codes)) ≡ length (code_bytes codes)

pub packing_next : (codes before payload : List ℕ) (n low byte : ℕ) → 2 * n < length codes → low ≡ get_or codes (2 * n + 1) 0
    → byte ≡ get_or codes (2 * n) 0 * 16 + low → Packing codes before payload n → Packing codes before (set payload n byte) (n + 1)
packing_next codes before payload n low byte h l e r =
    let i = 2 * n in
    let k : n + 1 ≡ suc n = omega arith in
    let j : suc i + 1 ≡ 2 * (n + 1) = omega arith in
    let m : suc i + 0 ≡ i + 1 = omega arith in
    let g : get_or (drop (suc i) codes) 0 0 ≡ low = get_or-drop (suc i) codes 0 0 ∙ rw m (sym l) in
    let u : code_bytes (drop i codes) ≡ byte ∷ code_bytes (drop (2 * (n + 1)) codes) =
    ap code_bytes (drop-cons codes i 0 h) ∙ packed_step (get_or codes i 0) (drop (suc i) codes) ∙ rw (g, e, drop-drop 1 (suc i) codes, j) in
    record {
      long = length-set payload n byte ∙ r.long;
      stored = subst (λ (m : ℕ). sets (set payload n byte) m (code_bytes (drop (2 * (n + 1)) codes)) ≡ sets before 0 (code_bytes codes)) (sym k) (rw u at r.stored);
      counted = omega (arith, ap length u, r.counted);
    }

module _ (codes before payload : List ℕ) (n : ℕ) (h : length codes ≤ 2 * n) (r : Packing codes before payload n) where
  ahead : code_bytes (drop (2 * n) codes) ≡ []
  unfolding code_bytes
  ahead = rw (drop_of_length-le codes h)

  pub packed_bytes : payload ≡ sets before 0 (code_bytes codes)
  packed_bytes = rw ahead at r.stored

  pub packed_count : n ≡ length (code_bytes codes)
  packed_count = omega (arith, ap length ahead, r.counted)

-- and they stand in front
pub packed_front : (codes old payload : List ℕ) (n : ℕ) → n ≡ length (code_bytes codes) → payload ≡ sets old 0 (code_bytes codes)
    → length (code_bytes codes) ≤ length old
    → take n payload ≡ code_bytes codes
packed_front codes old payload n e s h = rw (s, sets_front old (code_bytes codes) h) (take_at (code_bytes codes) _ n (sym e))

-- two codes a byte
pub packed_length : (codes : List ℕ) → (length codes ≤ 2 * length (code_bytes codes)) × (2 * length (code_bytes codes) ≤ length codes + 1)
unfolding code_bytes
packed_length [] = (omega arith, omega arith)
packed_length (a ∷ []) = (omega arith, omega arith)
packed_length (a ∷ b ∷ rest) = let ih = packed_length rest in (omega (arith, ih.0), omega (arith, ih.1))

pub packed_are_bytes : (codes : List ℕ) → all_codes codes ≡ true → Bytes (code_bytes codes)
unfolding code_bytes
packed_are_bytes [] h = none
packed_are_bytes (a ∷ []) h = let l : a * 16 < 256 = omega (arith, (code_parts a [] h).most) in more l none
packed_are_bytes (a ∷ b ∷ rest) h =
    let p = code_parts a (b ∷ rest) h in
    let q = code_parts b rest p.rest in
    let l : a * 16 + b < 256 = omega (arith, p.most, q.most) in
    more l (packed_are_bytes rest q.rest)

-- ---- and back

-- a byte's halves
halves : (a b : ℕ) → b < 16 → ((a * 16 + b) / 16 ≡ a) × ((a * 16 + b) % 16 ≡ b)
halves a b h = (omega arith, omega arith)

-- unpacking goes byte by byte while another follows
two_more : (x : ℕ) (bytes : List ℕ) → 0 < length bytes → codes_in (x ∷ bytes) ≡ x / 16 ∷ x % 16 ∷ codes_in bytes
unfolding codes_in
two_more x [] h = absurd (omega arith)
two_more x (b ∷ bs) h = refl

pub codes_back : (codes : List ℕ) → all_codes codes ≡ true → codes_in (code_bytes codes) ≡ codes
unfolding codes_in code_bytes
codes_back [] h = refl
codes_back (a ∷ []) h =
    let e : a * 16 / 16 ≡ a = omega arith in
    let f : a * 16 % 16 ≡ 0 = omega arith in
    rw (e, f)
codes_back (a ∷ b ∷ []) h =
    let q = code_parts b [] (code_parts a (b ∷ []) h).rest in
    let l : b < 16 = omega (arith, q.most) in
    let g = halves a b l in
    rw (g.0, g.1, ne_eqb b 0 (λ z. omega (arith, q.least)))
codes_back (a ∷ b ∷ c ∷ rest) h =
    let p = code_parts b (c ∷ rest) (code_parts a (b ∷ c ∷ rest) h).rest in
    let l : b < 16 = omega (arith, p.most) in
    let g = halves a b l in
    two_more (a * 16 + b) (code_bytes (c ∷ rest)) (omega (arith, (packed_length (c ∷ rest)).0)) ∙ rw (g.0, g.1, codes_back (c ∷ rest) p.rest)

-- ---- what fits

pub record CodesFit (codes : List ℕ) : Type 0 where
  pub some : 1 ≤ length codes
  pub few : length codes ≤ 128
  pub are : all_codes codes ≡ true

pub codes_parts : (codes : List ℕ) → codes_fit codes ≡ true → CodesFit codes
unfolding codes_fit
codes_parts codes h =
    let a = leb 1 (length codes) in
    let b = leb (length codes) 128 in
    let ab = and_left (a && b) (all_codes codes) h in
    record {
      some = leb-true 1 (length codes) (and_left a b ab);
      few = leb-true (length codes) 128 (and_right a b ab);
      are = and_right (a && b) (all_codes codes) h;
    }

-- a piece that fits has at most 64 bytes
pub few_bytes : (codes : List ℕ) → codes_fit codes ≡ true → length (code_bytes codes) ≤ 64
few_bytes codes h = omega (arith, (codes_parts codes h).few, (packed_length codes).1)
