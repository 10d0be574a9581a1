-- A piece's bytes, taken one by one: as long as no half was 0, what is ahead has the answer and is still to be stored. Assumes nothing.
use mathlib.Core.Path.{◌≡◌, refl, sym, ap, ◌∙◌}
use mathlib.Core.Bool.{Bool, true, false, cond, ◌&&◌}
use mathlib.Core.List.{List, [], ◌∷◌, ◌++◌, map, map-append, append-nil}
use Prim.Native.Nat.{ℕ, zero, suc, ◌+◌, ◌-◌, ◌*◌, ◌/◌, ◌%◌, ◌<◌, ◌≤◌}
use native.Mathlib.Omega.{arith}
use native.Mathlib.Numerals.{add-one}
use lib.Dec.{eqb, leb}
use lib.ListN.{length, get_or, drop, set, length-map, length-append, length-drop, drop_of_length-le}
use lib.Seq.{sets, length-sets, drop-cons}
use borrow.Author.Tests.{le-leb, leb-true, eq-eqb, ne_eqb, eqb-true, eqb-false}
use Rattle.rules.specs.Letters.{letter_of}
use Rattle.decoding.proofs.Decoding.{and_left, and_right}
use Rattle.lines.proofs.Storing.{sets_append}
use Rattle.payloads.specs.Pieces.{all_codes, codes_in}
use Rattle.pieces.specs.Letters.{is_piece, letters_in}

-- ---- is it a piece

pub piece_sized : (payload : List ℕ) → leb 1 (length payload) && leb (length payload) 64 ≡ false → is_piece payload ≡ false
unfolding is_piece
piece_sized payload e = rw e

-- no half of the first i bytes is 0
pub record Halving (payload : List ℕ) (i : ℕ) : Type 0 where
  pub within : i ≤ length payload
  pub ahead : is_piece payload ≡ all_codes (codes_in (drop i payload))

pub halving_start : (payload : List ℕ) → leb 1 (length payload) && leb (length payload) 64 ≡ true → Halving payload 0
unfolding is_piece
halving_start payload e = record { within = omega arith; ahead = rw e }

-- a byte's codes, before those of the others
two_codes : (b : ℕ) (rest : List ℕ) → 0 < b % 16 → codes_in (b ∷ rest) ≡ b / 16 ∷ b % 16 ∷ codes_in rest
unfolding codes_in
two_codes b [] h = rw (ne_eqb (b % 16) 0 (λ z. omega arith))
two_codes b (c ∷ rest) h = refl

-- nothing is left exactly at the end
none_after : (i n : ℕ) → i ≤ n → eqb (n - i) 0 ≡ eqb i n
none_after i n h = go (eqb i n) refl
  where
    go : (t : Bool) → eqb i n ≡ t → eqb (n - i) 0 ≡ eqb i n
    go true e = rw e (let q = eqb-true i n e in eq-eqb (n - i) 0 (omega arith))
    go false e = rw e (ne_eqb (n - i) 0 (λ q. eqb-false i n e (omega arith)))

step : (payload : List ℕ) (i : ℕ) → i < length payload → Halving payload i → is_piece payload ≡ all_codes (codes_in (get_or payload i 0 ∷ drop (i + 1) payload))
step payload i h r = r.ahead ∙ rw (drop-cons payload i 0 h, add-one)

module _ (payload : List ℕ) (i high low : ℕ) (h : i < length payload) (byte : get_or payload i 0 < 256) (eh : high ≡ get_or payload i 0 / 16)
    (el : low ≡ get_or payload i 0 % 16) (r : Halving payload i) where
  b : ℕ
  b = get_or payload i 0

  pub halving_next : (high ≡ 0 → ⊥) → (low ≡ 0 → ⊥) → Halving payload (i + 1)
  unfolding all_codes b
  halving_next nh nl =
      let p : 1 ≤ b / 16 = omega arith in
      let q : b / 16 ≤ 15 = omega arith in
      let s : 1 ≤ b % 16 = omega arith in
      let t : b % 16 ≤ 15 = omega arith in
      record {
        within = omega arith;
        ahead =
            step payload i h r
            ∙ rw (two_codes b (drop (i + 1) payload) s) (rw (le-leb 1 (b / 16) p, le-leb (b / 16) 15 q, le-leb 1 (b % 16) s, le-leb (b % 16) 15 t));
      }

  -- the first of a byte's codes
  first_code : (rest : List ℕ) → b / 16 ≡ 0 → all_codes (codes_in (b ∷ rest)) ≡ false
  unfolding all_codes codes_in
  first_code [] z = rw z
  first_code (x ∷ rest) z = rw z

  pub high_zero : high ≡ 0 → is_piece payload ≡ false
  unfolding b
  high_zero z = step payload i h r ∙ first_code (drop (i + 1) payload) (sym eh ∙ z)

  -- a low half that is 0 is right at the end alone
  last_code : (rest : List ℕ) → 0 < b / 16 → b / 16 ≤ 15 → b % 16 ≡ 0 → all_codes (codes_in (b ∷ rest)) ≡ eqb (length rest) 0
  unfolding all_codes codes_in
  last_code [] p q z = rw z (rw (le-leb 1 (b / 16) p, le-leb (b / 16) 15 q))
  last_code (x ∷ rest) p q z = rw z (rw (le-leb 1 (b / 16) p, le-leb (b / 16) 15 q, ne_eqb (length (x ∷ rest)) 0 (λ e. omega arith)))

  pub low_zero : (high ≡ 0 → ⊥) → low ≡ 0 → is_piece payload ≡ eqb (i + 1) (length payload)
  unfolding b
  low_zero n z =
      let p : 0 < b / 16 = omega arith in
      let q : b / 16 ≤ 15 = omega arith in
      step payload i h r ∙ last_code (drop (i + 1) payload) p q (sym el ∙ z)
      ∙ rw (length-drop (i + 1) payload) (none_after (i + 1) (length payload) (omega arith))

pub halving_end : (payload : List ℕ) (i : ℕ) → length payload ≤ i → Halving payload i → is_piece payload ≡ true
unfolding all_codes codes_in
halving_end payload i h r = r.ahead ∙ rw (drop_of_length-le payload h)

-- what a piece is
pub record IsPiece (payload : List ℕ) : Type 0 where
  pub least : 1 ≤ length payload
  pub most : length payload ≤ 64
  pub codes : all_codes (codes_in payload) ≡ true

pub piece_parts : (payload : List ℕ) → is_piece payload ≡ true → IsPiece payload
unfolding is_piece
piece_parts payload h =
    let a = leb 1 (length payload) in
    let b = leb (length payload) 64 in
    let ab = and_left (a && b) (all_codes (codes_in payload)) h in
    record {
      least = leb-true 1 (length payload) (and_left a b ab);
      most = leb-true (length payload) 64 (and_right a b ab);
      codes = and_right (a && b) (all_codes (codes_in payload)) h;
    }

-- ---- how many codes it has

pub count_odd : (payload : List ℕ) (n : ℕ) → length payload ≡ suc n → get_or payload n 0 % 16 ≡ 0 → length (codes_in payload) ≡ 2 * n + 1
unfolding codes_in
count_odd [] n e z = absurd (omega arith)
count_odd (b ∷ []) zero e z = rw z
count_odd (b ∷ []) (suc n) e z = absurd (omega arith)
count_odd (b ∷ c ∷ rest) zero e z = absurd (omega arith)
count_odd (b ∷ c ∷ rest) (suc n) e z = omega (arith, count_odd (c ∷ rest) n (omega arith) z)

pub count_even : (payload : List ℕ) (n : ℕ) → length payload ≡ suc n → (get_or payload n 0 % 16 ≡ 0 → ⊥) → length (codes_in payload) ≡ 2 * n + 2
unfolding codes_in
count_even [] n e z = absurd (omega arith)
count_even (b ∷ []) zero e z = rw (ne_eqb (b % 16) 0 z)
count_even (b ∷ []) (suc n) e z = absurd (omega arith)
count_even (b ∷ c ∷ rest) zero e z = absurd (omega arith)
count_even (b ∷ c ∷ rest) (suc n) e z = omega (arith, count_even (c ∷ rest) n (omega arith) z)

pub count_most : (payload : List ℕ) → length (codes_in payload) ≤ 2 * length payload
unfolding codes_in
count_most [] = omega arith
count_most (b ∷ []) = go (eqb (b % 16) 0)
  where
    go : (t : Bool) → suc (length (cond t [] (b % 16 ∷ []))) ≤ 2
    go true = omega arith
    go false = omega arith
count_most (b ∷ c ∷ rest) = omega (arith, count_most (c ∷ rest))

pub count_least : (payload : List ℕ) → 2 * length payload ≤ length (codes_in payload) + 1
unfolding codes_in
count_least [] = omega arith
count_least (b ∷ []) = omega arith
count_least (b ∷ c ∷ rest) = omega (arith, count_least (c ∷ rest))

-- ---- its letters

module _ (letters : List ℕ) (at byte high low a : ℕ) (eh : high ≡ byte / 16) (el : low ≡ byte % 16) (ea : a ≡ letter_of high) where
  pub one_letter : low ≡ 0 → (at + 1 ≡ at + length (codes_in (byte ∷ []))) × (set letters at a ≡ sets letters at (letters_in (byte ∷ [])))
  unfolding codes_in letters_in
  one_letter z = let e : byte % 16 ≡ 0 = sym el ∙ z in rw e (refl, rw (ea, eh))

  pub two_letters : (b : ℕ) → b ≡ letter_of low → (low ≡ 0 → ⊥)
      → (at + 2 ≡ at + length (codes_in (byte ∷ []))) × (set (set letters at a) (at + 1) b ≡ sets letters at (letters_in (byte ∷ [])))
  unfolding codes_in letters_in
  two_letters b eb n = rw (ne_eqb (byte % 16) 0 (λ z. n (el ∙ z))) (refl, rw (add-one at, ea, eb, eh, el))

pub codes_some : (byte : ℕ) → 1 ≤ length (codes_in (byte ∷ []))
unfolding codes_in
codes_some byte = omega arith

pub codes_two : (byte low : ℕ) → low ≡ byte % 16 → (low ≡ 0 → ⊥) → length (codes_in (byte ∷ [])) ≡ 2
unfolding codes_in
codes_two byte low e n = rw (ne_eqb (byte % 16) 0 (λ z. n (e ∙ z)))

-- the low half of a byte with others behind it is no 0
low_code : (b c : ℕ) (rest : List ℕ) → all_codes (codes_in (b ∷ c ∷ rest)) ≡ true → 1 ≤ b % 16
unfolding codes_in all_codes
low_code b c rest h =
    let r = and_right (leb 1 (b / 16) && leb (b / 16) 15) (leb 1 (b % 16) && leb (b % 16) 15 && all_codes (codes_in (c ∷ rest))) h in
    let s = and_left (leb 1 (b % 16) && leb (b % 16) 15) (all_codes (codes_in (c ∷ rest))) r in
    leb-true 1 (b % 16) (and_left (leb 1 (b % 16)) (leb (b % 16) 15) s)

codes_cons : (b : ℕ) (rest : List ℕ) → all_codes (codes_in (b ∷ rest)) ≡ true → codes_in (b ∷ rest) ≡ codes_in (b ∷ []) ++ codes_in rest
unfolding codes_in
codes_cons b [] h = sym (append-nil (codes_in (b ∷ [])))
codes_cons b (c ∷ rest) h = rw (ne_eqb (b % 16) 0 (λ z. omega (arith, low_code b c rest h)))

all_append : (xs ys : List ℕ) → all_codes (xs ++ ys) ≡ true → all_codes ys ≡ true
unfolding all_codes
all_append [] ys h = h
all_append (x ∷ xs) ys h = all_append xs ys (and_right (leb 1 x && leb x 15) (all_codes (xs ++ ys)) h)

-- the letters of the first i bytes are stored
pub record Storing (payload before letters : List ℕ) (at place i : ℕ) : Type 0 where
  pub within : i ≤ length payload
  pub long : length letters ≡ length before
  pub ok : all_codes (codes_in (drop i payload)) ≡ true
  pub stored : sets letters place (letters_in (drop i payload)) ≡ sets before at (letters_in payload)
  pub counted : place + length (codes_in (drop i payload)) ≡ at + length (codes_in payload)

pub storing_start : (payload letters : List ℕ) (at : ℕ) → all_codes (codes_in payload) ≡ true → Storing payload letters letters at at 0
storing_start payload letters at h = record { within = omega arith; long = refl; ok = h; stored = refl; counted = refl }

module _ (payload before letters : List ℕ) (at place i : ℕ) (h : i < length payload) (r : Storing payload before letters at place i) where
  byte : ℕ
  byte = get_or payload i 0

  rest : List ℕ
  rest = drop (i + 1) payload

  heads : drop i payload ≡ byte ∷ rest
  unfolding byte rest
  heads = drop-cons payload i 0 h ∙ rw add-one

  cons : codes_in (drop i payload) ≡ codes_in (byte ∷ []) ++ codes_in rest
  cons = ap codes_in heads ∙ codes_cons byte rest (rw heads at r.ok)

  pub letters_fit : at + length (codes_in payload) ≤ length before → place + length (codes_in (get_or payload i 0 ∷ [])) ≤ length letters
  unfolding byte
  letters_fit f = omega (arith, ap length cons, length-append (codes_in (byte ∷ [])) (codes_in rest), r.counted, r.long)

  pub storing_next : (more : List ℕ) (next : ℕ) → next ≡ place + length (codes_in (get_or payload i 0 ∷ []))
      → more ≡ sets letters place (letters_in (get_or payload i 0 ∷ [])) → Storing payload before more at next (i + 1)
  unfolding byte rest letters_in
  storing_next more next n m =
      let l : place + length (letters_in (byte ∷ [])) ≡ next = omega (arith, length-map (codes_in (byte ∷ [])) letter_of) in
      let s : letters_in (drop i payload) ≡ letters_in (byte ∷ []) ++ letters_in rest =
      ap (map letter_of) cons ∙ map-append letter_of (codes_in (byte ∷ [])) (codes_in rest) in
      record {
        within = omega arith;
        long = ap length m ∙ length-sets letters place (letters_in (byte ∷ [])) ∙ r.long;
        ok = all_append (codes_in (byte ∷ [])) (codes_in rest) (sym (ap all_codes cons) ∙ r.ok);
        stored = rw (m, ← l) (sym (sets_append letters place (letters_in (byte ∷ [])) (letters_in rest)) ∙ ap (sets letters place) (sym s) ∙ r.stored);
        counted = omega (arith, ap length cons, length-append (codes_in (byte ∷ [])) (codes_in rest), r.counted);
      }

pub storing_end : (payload before letters : List ℕ) (at place i : ℕ) → length payload ≤ i → Storing payload before letters at place i
    → letters ≡ sets before at (letters_in payload)
unfolding letters_in codes_in
storing_end payload before letters at place i h r = rw (drop_of_length-le payload h) at r.stored
