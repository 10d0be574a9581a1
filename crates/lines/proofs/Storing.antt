-- Runs of stores: what is stored and what is still to be stored make the whole run, since a run stores its first element first. Assumes nothing.
use Rattle.std.proofs.Common.{◌≡◌, ℕ, suc, ◌+◌, ◌*◌, ◌/◌, ◌%◌, ◌<◌, ◌≤◌, List, [], ◌∷◌, ◌++◌, length, get_or, drop, set, refl, ap, ◌∙◌, add-one, arith, drop_of_length-le, drop-cons}
use lib.Seq.{sets, sets-eq, length-sets}
use Rattle.lines.specs.Digits.{digit_of, digits_of}

-- one run after the other
pub sets_append : (l : List ℕ) (i : ℕ) (xs ys : List ℕ) → sets l i (xs ++ ys) ≡ sets (sets l i xs) (i + length xs) ys
sets_append l i [] ys = ap (λ (n : ℕ). sets l n ys) (omega arith)
sets_append l i (x ∷ xs) ys =
    sets_append _ (suc i) xs ys ∙ ap (λ (n : ℕ). sets (sets l i (x ∷ xs)) n ys) (omega arith)

-- a run from the front
pub sets_front : (l vs : List ℕ) → length vs ≤ length l → sets l 0 vs ≡ vs ++ drop (length vs) l
sets_front l vs h =
    let e : 0 + length vs ≡ length vs = omega arith in
    sets-eq vs l 0 (omega arith) ∙ ap (λ (n : ℕ). vs ++ drop n l) e

pub digits_length : (bs : List ℕ) → length (digits_of bs) ≡ 2 * length bs
unfolding digits_of
digits_length [] = refl
digits_length (b ∷ bs) = omega (arith, digits_length bs)

pub digits_append : (bs cs : List ℕ) → digits_of (bs ++ cs) ≡ digits_of bs ++ digits_of cs
unfolding digits_of
digits_append [] cs = refl
digits_append (b ∷ bs) cs = rw (digits_append bs cs)

-- two stores of a byte's digits are one run
pub byte_stored : (out : List ℕ) (at byte high low a b : ℕ) → high ≡ byte / 16 → low ≡ byte % 16 → a ≡ digit_of high → b ≡ digit_of low
    → set (set out at a) (at + 1) b ≡ sets out at (digits_of (byte ∷ []))
unfolding digits_of
byte_stored out at byte high low a b h l ea eb = rw (add-one at, ea, eb, h, l)

-- the digits of the first i bytes are stored
pub record Putting (bytes before out : List ℕ) (at i : ℕ) : Type 0 where
  pub within : i ≤ length bytes
  pub long : length out ≡ length before
  pub ahead : sets out (at + 2 * i) (digits_of (drop i bytes)) ≡ sets before at (digits_of bytes)

pub putting_start : (bytes out : List ℕ) (at : ℕ) → Putting bytes out out at 0
putting_start bytes out at = record { within = omega arith; long = refl; ahead = ap (λ (n : ℕ). sets out n (digits_of bytes)) (omega arith) }

pub putting_next : (bytes before out more : List ℕ) (at i : ℕ) → i < length bytes → more ≡ sets out (at + 2 * i) (digits_of (get_or bytes i 0 ∷ []))
    → Putting bytes before out at i → Putting bytes before more at (i + 1)
unfolding digits_of
putting_next bytes before out more at i h e r =
    let d : drop i bytes ≡ get_or bytes i 0 ∷ drop (i + 1) bytes = drop-cons bytes i 0 h ∙ rw add-one in
    let n : at + 2 * (i + 1) ≡ suc (suc (at + 2 * i)) = omega arith in
    record {
      within = omega arith;
      long = ap length e ∙ length-sets out (at + 2 * i) (digits_of (get_or bytes i 0 ∷ [])) ∙ r.long;
      ahead = rw (n, e) (rw d at r.ahead);
    }

pub putting_end : (bytes before out : List ℕ) (at i : ℕ) → length bytes ≤ i → Putting bytes before out at i → out ≡ sets before at (digits_of bytes)
unfolding digits_of
putting_end bytes before out at i h r = rw (drop_of_length-le bytes h) at r.ahead
