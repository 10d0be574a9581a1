-- From letters to codes to frames and back: accepted letters, cut into pieces by their codes and written by our writers, are read as their capitals, since
-- "Frames carry capitals only". Assumes nothing.
use mathlib.Core.Path.{◌≡◌, refl, sym, ap, ap₂, ◌∙◌}
use mathlib.Core.Bool.{Bool, true, false, ◌&&◌}
use mathlib.Core.List.{List, [], ◌∷◌, ◌++◌, map, map-append, Memᴰ}
use Prim.Native.Nat.{ℕ, suc, ◌<◌, ◌≤◌}
use native.Mathlib.Omega.{arith}
use lib.Dec.{eqb, leb}
use lib.ListN.{length}
use borrow.Author.Tests.{le-leb, eqb-false}
use Rattle.rules.specs.declared.Settings.{Settings}
use Rattle.rules.specs.Lists.{laid}
use Rattle.rules.specs.Letters.{letter_of, code_of, bad_from, bad_place, stands_for, as_read}
use Rattle.rules.proofs.Letters.{code_small, letter_of_code}
use Rattle.rules.proofs.Masks.{read_length}
use Rattle.decoding.proofs.Decoding.{and_left, and_right}
use Rattle.payloads.specs.Pieces.{all_codes, codes_fit}
use Rattle.kinds.specs.Kinds.{job_fits, job_line, piece_line, end_line}
use Rattle.input.specs.Grammar.{input_of}
use Rattle.input.proofs.RoundTrip.{letters, Fit, round_trip}

-- ---- accepted letters have codes, and their capitals are the letters of these

record Coded (x n : ℕ) (xs : List ℕ) : Type 0 where
  has_code : 0 < code_of x
  rest : bad_from (suc (suc n)) xs ≡ 0

coded : (x n : ℕ) (xs : List ℕ) → bad_from (suc n) (x ∷ xs) ≡ 0 → Coded x n xs
unfolding bad_from
coded x n xs h = go (eqb (code_of x) 0) refl
  where
    go : (t : Bool) → eqb (code_of x) 0 ≡ t → Coded x n xs
    go true e = let z = rw e at h in absurd (omega arith)
    go false e = let ne = eqb-false (code_of x) 0 e in record { has_code = omega arith; rest = rw e at h }

are_codes : (n : ℕ) (s : List ℕ) → bad_from (suc n) s ≡ 0 → all_codes (map code_of s) ≡ true
unfolding all_codes
are_codes n [] h = refl
are_codes n (x ∷ xs) h =
    let c = coded x n xs h in
    rw (le-leb 1 (code_of x) (omega (arith, c.has_code)), le-leb (code_of x) 15 (omega (arith, code_small x))) (are_codes (suc n) xs c.rest)

letters_of : (s : List ℕ) → map letter_of (map code_of s) ≡ as_read 0 s
unfolding as_read stands_for
letters_of [] = refl
letters_of (x ∷ xs) = ap₂ {C = List ℕ} (λ y ys. y ∷ ys) (letter_of_code x) (letters_of xs)

-- ---- cut into pieces

-- codes cut into pieces of 1 to 128, in their order
pub record Cut (codes : List ℕ) (xs : List (List ℕ)) : Type 0 where
  pub joined : laid (λ (x : List ℕ). x) xs ≡ codes
  pub some : (x : List ℕ) → Memᴰ x xs → 1 ≤ length x
  pub few : (x : List ℕ) → Memᴰ x xs → length x ≤ 128

-- all codes can be cut so, if only into pieces of one
pub one_each : (codes : List ℕ) → Cut codes (map (λ (c : ℕ). c ∷ []) codes)
unfolding laid
one_each codes =
    record { joined = joined codes; some = λ x i. omega (arith, one codes x i); few = λ x i. omega (arith, one codes x i) }
  where
    joined : (cs : List ℕ) → laid (λ (x : List ℕ). x) (map (λ (c : ℕ). c ∷ []) cs) ≡ cs
    joined [] = refl
    joined (c ∷ cs) = rw (joined cs)

    one : (cs x : List ℕ) → Memᴰ x (map (λ (c : ℕ). c ∷ []) cs) → length x ≡ 1
    one [] x i = elim i [ ]
    one (c ∷ cs) x (Memᴰ.head e) = ap length e
    one (c ∷ cs) x (Memᴰ.tail i) = one cs x i

codes_apart : (a b : List ℕ) → all_codes (a ++ b) ≡ true → (all_codes a ≡ true) × (all_codes b ≡ true)
unfolding all_codes
codes_apart [] b h = (refl, h)
codes_apart (c ∷ cs) b h =
    let t = leb 1 c && leb c 15 in
    let r = codes_apart cs b (and_right t (all_codes (cs ++ b)) h) in
    (rw (and_left t (all_codes (cs ++ b)) h) r.0, r.1)

each_codes : (xs : List (List ℕ)) → all_codes (laid (λ (x : List ℕ). x) xs) ≡ true → (x : List ℕ) → Memᴰ x xs → all_codes x ≡ true
unfolding laid
each_codes [] h x i = elim i [ ]
each_codes (y ∷ ys) h x (Memᴰ.head e) = ap all_codes e ∙ (codes_apart y (laid (λ (z : List ℕ). z) ys) h).0
each_codes (y ∷ ys) h x (Memᴰ.tail i) = each_codes ys (codes_apart y (laid (λ (z : List ℕ). z) ys) h).1 x i

-- the letters of the pieces are those of all codes
letters_joined : (xs : List (List ℕ)) → letters xs ≡ map letter_of (laid (λ (x : List ℕ). x) xs)
unfolding laid
letters_joined [] = refl
letters_joined (x ∷ xs) = rw (letters_joined xs) (sym (map-append letter_of x (laid (λ (z : List ℕ). z) xs)))

module _ (s : List ℕ) (xs : List (List ℕ)) (accepted : bad_place s ≡ 0) (cut : Cut (map code_of s) xs) where
  pieces_fit : Fit xs
  unfolding codes_fit bad_place
  pieces_fit x i =
      let all : all_codes (laid (λ (z : List ℕ). z) xs) ≡ true = ap all_codes cut.joined ∙ are_codes 0 s accepted in
      rw (le-leb 1 (length x) (cut.some x i), le-leb (length x) 128 (cut.few x i)) (each_codes xs all x i)

  capitals : letters xs ≡ as_read 0 s
  capitals = letters_joined xs ∙ ap (map letter_of) cut.joined ∙ letters_of s

-- a job and two sequences of accepted letters, cut into pieces of any sizes by their codes, written line by line with the end, are read back as the
-- same settings and the capitals of exactly those letters, which are what the job reads
pub letters_round_trip : (c : Settings) (first second : List ℕ) (xs ys : List (List ℕ)) → job_fits c ≡ true → bad_place first ≡ 0 → bad_place second ≡ 0
    → length first ≤ 16384 → length second ≤ 16384 → Cut (map code_of first) xs → Cut (map code_of second) ys
    → input_of (job_line c ++ (laid (piece_line 1) xs ++ (laid (piece_line 2) ys ++ end_line)))
    ≡ record {
      answer = record { number = 0; line = 0; settings = c; first = length first; second = length second };
      first = as_read 0 first;
      second = as_read 0 second;
    }
letters_round_trip c first second xs ys h a b l m p q =
    let ef = capitals first xs a p in
    let es = capitals second ys b q in
    let lf : length (letters xs) ≡ length first = ap length ef ∙ read_length 0 first in
    let ls : length (letters ys) ≡ length second = ap length es ∙ read_length 0 second in
    let r = round_trip c xs ys h (pieces_fit first xs a p) (pieces_fit second ys b q) (rw lf l) (rw ls m) in
    rw (lf, ls, ef, es) at r
