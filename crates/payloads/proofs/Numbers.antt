-- Numbers in bytes, highest first: what is left of a number fills what is left of its bytes, and the bytes give the number back. Assumes nothing.
use mathlib.Core.Path.{◌≡◌, refl, sym, ap, subst, ◌∙◌}
use mathlib.Core.Bool.{Bool}
use mathlib.Core.List.{List, [], ◌∷◌, ◌++◌, append_assoc}
use Prim.Native.Nat.{ℕ, zero, suc, ◌+◌, ◌-◌, ◌*◌, ◌/◌, ◌%◌, ◌^◌, ◌<◌, ◌≤◌}
use native.Mathlib.Omega.{arith}
use native.Mathlib.Numerals.{add-one}
use lib.Dec.{leb, leb→le}
use lib.ListN.{length, get_or, set, length-append, length-set}
use lib.Seq.{sets, set_comm, get_or-append-add}
use lib.Bits.{bit_and, and_mask}
use lib.Pow.{pow-add}
use Rattle.rules.proofs.Computed.{at_each}
use Rattle.decoding.proofs.RoundTrip.{Bytes, none, more, bytes_append}
use Rattle.payloads.specs.Numbers.{number_bytes, number_at}

pub low_byte : (x : ℕ) → bit_and x 255 ≡ x % 256
low_byte x = and_mask x 8

pub number_length : (n x : ℕ) → length (number_bytes n x) ≡ n
unfolding number_bytes
number_length zero x = refl
number_length (suc n) x = omega (arith, length-append (number_bytes n (x / 256)) (x % 256 ∷ []), number_length n (x / 256))

pub number_bytes_lem : (n x : ℕ) → Bytes (number_bytes n x)
unfolding number_bytes
number_bytes_lem zero x = none
number_bytes_lem (suc n) x = let h : x % 256 < 256 = omega arith in bytes_append (number_bytes_lem n (x / 256)) (more h none)

-- the last of a run may be stored first
sets_last : (l : List ℕ) (i : ℕ) (xs : List ℕ) (y : ℕ) → sets l i (xs ++ (y ∷ [])) ≡ sets (set l (i + length xs) y) i xs
sets_last l i [] y = ap (λ (n : ℕ). set l n y) (omega arith)
sets_last l i (x ∷ xs) y =
    let e : suc i + length xs ≡ i + suc (length xs) = omega arith in
    sets_last (set l i x) (suc i) xs y
    ∙ ap (λ (m : List ℕ). sets m (suc i) xs) (ap (λ (n : ℕ). set (set l i x) n y) e ∙ set_comm l i (i + suc (length xs)) x y (λ q. omega arith))

-- the number's last bytes are stored, and what is left of it goes before them
pub record Filling (before payload : List ℕ) (at width x left rest : ℕ) : Type 0 where
  pub long : length payload ≡ length before
  pub ahead : sets payload at (number_bytes left rest) ≡ sets before at (number_bytes width x)

pub filling_next : (before payload : List ℕ) (at width x left rest byte : ℕ) → 0 < left → byte ≡ rest % 256
    → Filling before payload at width x left rest
    → Filling before (set payload (at + (left - 1)) byte) at width x (left - 1) (rest / 256)
unfolding number_bytes
filling_next before payload at width x left rest byte h e r =
    let n = left - 1 in
    let s : left ≡ suc n = omega arith in
    let l = number_length n (rest / 256) in
    record {
      long = length-set payload (at + n) byte ∙ r.long;
      ahead =
          ap (λ (m : List ℕ). sets m at (number_bytes n (rest / 256))) (rw (e, l))
          ∙ sym (sets_last payload at (number_bytes n (rest / 256)) (rest % 256)) ∙ (rw s at r.ahead);
    }

pub filling_end : (before payload : List ℕ) (at width x left rest : ℕ) → left ≤ 0 → Filling before payload at width x left rest
    → payload ≡ sets before at (number_bytes width x)
unfolding number_bytes
filling_end before payload at width x left rest h r = let e : left ≡ 0 = omega arith in rw e at r.ahead

-- ---- reading

small : ℕ → Bool
small i = leb (256 ^ i) 72057594037927936

-- seven bytes hold what is below 256 ^ 7
seven : (i : ℕ) → i < 8 → 256 ^ i ≤ 72057594037927936
unfolding small
seven i h = leb→le (256 ^ i) 72057594037927936 (at_each small 8 tt i h)

-- the first i bytes are read
pub record Gathering (bytes : List ℕ) (at width x i : ℕ) : Type 0 where
  pub within : i ≤ width
  pub is : x ≡ number_at bytes at i
  pub small : x < 256 ^ i

pub gathering_start : (bytes : List ℕ) (at width : ℕ) → Gathering bytes at width 0 0
unfolding number_at
gathering_start bytes at width = record { within = omega arith; is = refl; small = omega arith }

pub gathering_fits : (bytes : List ℕ) (at width x i b : ℕ) → width ≤ 8 → i < width → b < 256 → Gathering bytes at width x i → x * 256 + b < 2 ^ 64
gathering_fits bytes at width x i b w h l r = omega (arith, r.small, seven i (omega arith))

pub gathering_next : (bytes : List ℕ) (at width x i : ℕ) → i < width → get_or bytes (at + i) 0 < 256 → Gathering bytes at width x i
    → Gathering bytes at width (x * 256 + get_or bytes (at + i) 0) (i + 1)
unfolding number_at
gathering_next bytes at width x i h l r =
    let p : 256 ^ (i + 1) ≡ 256 ^ i * 256 = pow-add 256 i 1 in
    record {
      within = omega arith;
      is = rw (add-one i) (ap (λ (n : ℕ). n * 256 + get_or bytes (at + i) 0) r.is);
      small = omega (arith, r.small);
    }

pub gathering_end : (bytes : List ℕ) (at width x i : ℕ) → width ≤ i → Gathering bytes at width x i
    → (x ≡ number_at bytes at width) × (x < 256 ^ width)
gathering_end bytes at width x i h r =
    let e : i ≡ width = omega (arith, r.within) in
    (r.is ∙ ap (number_at bytes at) e, subst (λ (n : ℕ). x < 256 ^ n) e r.small)

number_more : (bytes : List ℕ) (at n a b x : ℕ) → number_at bytes at n ≡ a → get_or bytes (at + n) 0 ≡ b → a * 256 + b ≡ x → number_at bytes at (suc n) ≡ x
unfolding number_at
number_more bytes at n a b x h l e = omega (arith, h, l, e)

-- the bytes that a number was put in, behind others and before others, give it back
pub number_back : (before after : List ℕ) (n x : ℕ) → x < 256 ^ n → number_at (before ++ (number_bytes n x ++ after)) (length before) n ≡ x
unfolding number_bytes number_at
number_back before after zero x h = omega arith
number_back before after (suc n) x h =
    let s : x / 256 < 256 ^ n = omega (arith, h) in
    let bs = number_bytes n (x / 256) in
    let e : before ++ (bs ++ (x % 256 ∷ []) ++ after) ≡ before ++ (bs ++ (x % 256 ∷ after)) =
    ap (λ (l : List ℕ). before ++ l) (append_assoc bs (x % 256 ∷ []) after) in
    let l : length before + n ≡ length before + (length bs + 0) = omega (arith, number_length n (x / 256)) in
    let g : get_or (before ++ (bs ++ (x % 256 ∷ after))) (length before + n) 0 ≡ x % 256 =
    rw l (get_or-append-add before (bs ++ (x % 256 ∷ after)) (length bs + 0) 0 ∙ get_or-append-add bs (x % 256 ∷ after) 0 0) in
    let ih = number_back before (x % 256 ∷ after) n (x / 256) s in
    ap (λ (l : List ℕ). number_at l (length before) (suc n)) e ∙ number_more _ _ n _ _ x ih g (omega arith)

-- a number stands where its bytes do
pub number_same : (xs ys : List ℕ) (at n : ℕ) → ((i : ℕ) → i < at + n → get_or xs i 0 ≡ get_or ys i 0) → number_at xs at n ≡ number_at ys at n
unfolding number_at
number_same xs ys at zero h = refl
number_same xs ys at (suc n) h = omega (arith, number_same xs ys at n (λ i l. h i (omega arith)), h (at + n) (omega arith))
