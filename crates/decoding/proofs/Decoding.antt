-- Reading a line in pairs of digits: as long as every pair is good, what is ahead has the answer, and what is ahead is still to be stored. Assumes nothing.
use Rattle.std.proofs.Common.{◌≡◌, ℕ, suc, ◌+◌, ◌-◌, ◌*◌, ◌%◌, ◌<◌, ◌≤◌, Bool, true, false, ◌&&◌, eqb, ltb, leb, Option, Some, None, unwrap_or, IsSome, List, [], ◌∷◌, ◌++◌, length, get_or, take, drop, set, sym, refl, ap, subst, ◌∙◌, arith, length-drop, length-set, drop-cons, ltb-true, leb-true, ne_eqb}
use Rattle.std.specs.List.{list_all}
use Rattle.std.proofs.lemmas.List.{take_more, take_all, length-take-le}
use Rattle.std.proofs.lemmas.Bool.Decides.{nat_tests}
use lib.ListN.{get_or-append}
use lib.Seq.{sets}
use borrow.Author.Tests.{lt-leb}
use Rattle.rules.proofs.Tests.{and_false}
use Rattle.decoding.specs.Digits.{nibble_of, closed, is_line, bytes_in}
use Rattle.lines.specs.Writing.{byte_sum}
use Rattle.lines.proofs.Storing.{sets_front}

pub and_left : (a b : Bool) → a && b ≡ true → a ≡ true
and_left true b e = refl
and_left false b e = e

pub and_right : (a b : Bool) → a && b ≡ true → b ≡ true
and_right true b e = e
and_right false b e = cc

-- the two bytes at i and what follows them
two_heads : (s : List ℕ) (i : ℕ) → i + 1 < length s → drop i s ≡ get_or s i 0 ∷ get_or s (i + 1) 0 ∷ drop (i + 2) s
two_heads s i h =
    let h₁ : i < length s = omega arith in
    let e : suc i ≡ i + 1 = omega arith in
    let e₂ : drop (i + 1) s ≡ get_or s (i + 1) 0 ∷ drop (suc (i + 1)) s = drop-cons s (i + 1) 0 h in
    let g : suc (i + 1) ≡ i + 2 = omega arith in
    drop-cons s i 0 h₁ ∙ rw (e, e₂, g)

-- ---- is it a line

-- some bytes and one behind them: a line feed closes an even count of digits, and nothing else does
abbrev pub is_digit : ℕ → Bool
is_digit d = ltb (nibble_of d) 16

digits_last : (a b c d : Bool) → (a && b && (c && d)) ≡ (c && (a && (b && d)))
digits_last true true c d = refl
digits_last true false true d = refl
digits_last true false false d = refl
digits_last false b true d = refl
digits_last false b false d = refl

closed_by : (digits : List ℕ) → closed (digits ++ (10 ∷ [])) ≡ (eqb (length digits % 2) 0 && list_all is_digit digits)
unfolding closed
closed_by [] = refl
closed_by (a ∷ []) = and_false (ltb (nibble_of a) 16 && false)
closed_by (a ∷ b ∷ rest) =
    let e : length (a ∷ b ∷ rest) % 2 ≡ length rest % 2 = omega arith in
    rw (e, closed_by rest) (digits_last (is_digit a) (is_digit b) (eqb (length rest % 2) 0) (list_all is_digit rest))

not_closed : (digits : List ℕ) (last : ℕ) → (last ≡ 10 → ⊥) → closed (digits ++ (last ∷ [])) ≡ false
unfolding closed
not_closed [] last n = ne_eqb last 10 n
not_closed (a ∷ []) last n = and_false (ltb (nibble_of a) 16 && ltb (nibble_of last) 16)
not_closed (a ∷ b ∷ rest) last n = rw (not_closed rest last n) (and_false (ltb (nibble_of a) 16 && ltb (nibble_of b) 16))

one_more : (a b : ℕ) → leb (suc a) (b + 1) ≡ leb a b
one_more a b = grind (arith, nat_tests)

one_less : (a b : ℕ) → leb (a + 1) (suc b) ≡ leb a b
one_less a b = grind (arith, nat_tests)

and_and : (a b c : Bool) → (a && (b && c)) ≡ (a && b && c)
and_and true b c = refl
and_and false b c = refl

pub line_short : (line : List ℕ) → length line < 7 → is_line line ≡ false
unfolding is_line
line_short line h = rw (lt-leb 7 (length line) h)

-- a line's digits, and what is behind them
module _ (line : List ℕ) (some : 1 ≤ length line) where
  abbrev pub digits_of_line : List ℕ
  digits_of_line = take (length line - 1) line

  parted : line ≡ digits_of_line ++ (get_or line (length line - 1) 0 ∷ [])
  parted =
      let h : length line - 1 < length line = omega arith in
      sym (take_all (length line - 1 + 1) line (omega arith)) ∙ take_more line (length line - 1) 0 h

  long : length line ≡ length digits_of_line + 1
  long = let h : length line - 1 ≤ length line = omega arith in omega (arith, length-take-le (length line - 1) line h)

  pub no_feed : (get_or line (length line - 1) 0 ≡ 10 → ⊥) → false ≡ is_line line
  unfolding is_line
  no_feed n =
      let e : closed line ≡ false = ap closed parted ∙ not_closed digits_of_line (get_or line (length line - 1) 0) n in
      rw e (sym (and_false (leb 7 (length line) && leb (length line) 135)))

  pub fed : get_or line (length line - 1) 0 ≡ 10
      → is_line line ≡ (leb 6 (length digits_of_line) && leb (length digits_of_line) 134 && eqb (length digits_of_line % 2) 0 && list_all is_digit digits_of_line)
  unfolding is_line
  fed f =
      let n = length digits_of_line in
      let e : closed line ≡ (eqb (n % 2) 0 && list_all is_digit digits_of_line) = ap closed parted ∙ rw f (closed_by digits_of_line) in
      let a : leb 7 (length line) ≡ leb 6 n = ap (λ k. leb 7 k) long ∙ one_more 6 n in
      let b : leb (length line) 135 ≡ leb n 134 = ap (λ k. leb k 135) long ∙ one_less n 134 in
      rw (e, a, b) (and_and (leb 6 n && leb n 134) (eqb (n % 2) 0) (list_all is_digit digits_of_line))

-- what a line is
pub record IsLine (line : List ℕ) : Type 0 where
  pub least : 7 ≤ length line
  pub most : length line ≤ 135
  pub ends : closed line ≡ true

pub line_parts : (line : List ℕ) → is_line line ≡ true → IsLine line
unfolding is_line
line_parts line h =
    let a = leb 7 (length line) in
    let b = leb (length line) 135 in
    let ab = and_left (a && b) (closed line) h in
    record {
      least = leb-true 7 (length line) (and_left a b ab);
      most = leb-true (length line) 135 (and_right a b ab);
      ends = and_right (a && b) (closed line) h;
    }

-- ---- its bytes

-- the two digits at i of a line that is closed from there
pub record Pair (line : List ℕ) (i : ℕ) : Type 0 where
  pub high : nibble_of (get_or line i 0) < 16
  pub low : nibble_of (get_or line (i + 1) 0) < 16
  pub rest : closed (drop (i + 2) line) ≡ true

pub pair_at : (line : List ℕ) (i : ℕ) → i + 1 < length line → closed (drop i line) ≡ true → Pair line i
unfolding closed
pair_at line i h e =
    let a = nibble_of (get_or line i 0) in
    let b = nibble_of (get_or line (i + 1) 0) in
    let t : ltb a 16 && ltb b 16 && closed (drop (i + 2) line) ≡ true = sym (ap closed (two_heads line i h)) ∙ e in
    let ab = and_left (ltb a 16 && ltb b 16) (closed (drop (i + 2) line)) t in
    record {
      high = ltb-true a 16 (and_left (ltb a 16) (ltb b 16) ab);
      low = ltb-true b 16 (and_right (ltb a 16) (ltb b 16) ab);
      rest = and_right (ltb a 16 && ltb b 16) (closed (drop (i + 2) line)) t;
    }

-- a digit that is read is one, as it stands in a closed line
pub some_half : (r : Option ℕ) (c : ℕ) → unwrap_or r 16 ≡ nibble_of c → nibble_of c < 16 → IsSome r
some_half None c e h = absurd (omega arith)
some_half (Some n) c e h = refl

-- the first n bytes are stored and summed, and the digits from 2 * n are still to come
pub record Decoding (line before bytes : List ℕ) (n sum : ℕ) : Type 0 where
  pub long : length bytes ≡ length before
  pub ok : closed (drop (2 * n) line) ≡ true
  pub stored : sets bytes n (bytes_in (drop (2 * n) line)) ≡ sets before 0 (bytes_in line)
  pub counted : n + length (bytes_in (drop (2 * n) line)) ≡ length (bytes_in line)
  pub small : sum < 256
  pub summed : (sum + byte_sum (bytes_in (drop (2 * n) line))) % 256 ≡ byte_sum (bytes_in line) % 256

pub decoding_start : (line bytes : List ℕ) → closed line ≡ true → Decoding line bytes bytes 0 0
decoding_start line bytes h = record { long = refl; ok = h; stored = refl; counted = omega arith; small = omega arith; summed = omega arith }

pub decoding_next : (line before bytes : List ℕ) (n sum byte : ℕ) → 2 * n + 1 < length line
    → byte ≡ nibble_of (get_or line (2 * n) 0) * 16 + nibble_of (get_or line (2 * n + 1) 0)
    → Decoding line before bytes n sum → Decoding line before (set bytes n byte) (n + 1) ((sum + byte) % 256)
unfolding bytes_in byte_sum
decoding_next line before bytes n sum byte h e r =
    let j : 2 * n + 2 ≡ 2 * (n + 1) = omega arith in
    let u : bytes_in (drop (2 * n) line) ≡ byte ∷ bytes_in (drop (2 * n + 2) line) = ap bytes_in (two_heads line (2 * n) h) ∙ rw e in
    let k : n + 1 ≡ suc n = omega arith in
    record {
      long = length-set bytes n byte ∙ r.long;
      ok = rw (← j) (pair_at line (2 * n) h r.ok).rest;
      stored = subst (λ (m : ℕ). sets (set bytes n byte) (n + 1) (bytes_in (drop m line)) ≡ sets before 0 (bytes_in line)) j (rw k (rw u at r.stored));
      counted = rw (← j) (omega (arith, ap length u, r.counted));
      small = omega arith;
      summed = rw (← j) (omega (arith, ap byte_sum u, r.summed));
    }

none_left : (l : List ℕ) → length l ≤ 1 → bytes_in l ≡ []
unfolding bytes_in
none_left [] h = refl
none_left (a ∷ []) h = refl
none_left (a ∷ b ∷ l) h = absurd (omega arith)

module _ (line before bytes : List ℕ) (n sum : ℕ) (h : length line ≤ 2 * n + 1) (r : Decoding line before bytes n sum) where
  ahead : bytes_in (drop (2 * n) line) ≡ []
  ahead = none_left (drop (2 * n) line) (omega (arith, length-drop (2 * n) line))

  pub decoded_bytes : bytes ≡ sets before 0 (bytes_in line)
  decoded_bytes = rw ahead at r.stored

  pub decoded_count : n ≡ length (bytes_in line)
  decoded_count = omega (arith, ap length ahead, r.counted)

  pub decoded_sum : sum ≡ byte_sum (bytes_in line) % 256
  unfolding byte_sum
  decoded_sum = omega (arith, ap byte_sum ahead, r.small, r.summed)

-- a closed line has one byte for each two digits
pub bytes_length : (line : List ℕ) → closed line ≡ true → 2 * length (bytes_in line) + 1 ≡ length line
unfolding closed bytes_in
bytes_length [] h = let z : ◌≡◌ {A = ℕ} 0 1 = cc in absurd (omega arith)
bytes_length (a ∷ []) h = refl
bytes_length (a ∷ b ∷ s) h = omega (arith, bytes_length s (and_right (ltb (nibble_of a) 16 && ltb (nibble_of b) 16) (closed s) h))

-- the bytes of a line are the first of those that were stored
pub byte_at : (line before : List ℕ) (i : ℕ) → i < length (bytes_in line) → length (bytes_in line) ≤ length before
    → get_or (sets before 0 (bytes_in line)) i 0 ≡ get_or (bytes_in line) i 0
byte_at line before i h g = rw (sets_front before (bytes_in line) g) (get_or-append (bytes_in line) _ 0 i h)
