-- What packing letters gives, by induction over them: one more letter is one more digit to the base 4. Assumes nothing.
use mathlib.Core.Path.{◌≡◌, refl, ◌∙◌}
use mathlib.Core.Bool.{true, ◌&&◌}
use mathlib.Core.List.{List, [], ◌∷◌, ◌++◌}
use Prim.Native.Nat.{ℕ, suc, ◌+◌, ◌*◌, ◌^◌, ◌<◌, ◌≤◌}
use native.Mathlib.Nat.{pow-suc, add-mul, mul_assoc, mul_comm, mul-le-mul_right}
use native.Mathlib.Omega.{arith}
use lib.Dec.{ltb}
use lib.ListN.{length}
use lib.Pow.{pow_mono}
use borrow.Author.Tests.{ltb-true}
use Rattle.rules.specs.Places.{base_of, all_bases, pack_on, packed}
use Rattle.kmers.proofs.Tests.{and_true, and_assoc}

-- two bits more for a base more
pub pow_two : (k : ℕ) → 2 ^ (2 * suc k) ≡ 2 ^ (2 * k) * 4
pow_two k =
    let e : 2 * suc k ≡ suc (suc (2 * k)) = omega arith in
    rw e (rw (pow-suc 2 (suc (2 * k)), pow-suc 2 (2 * k)) (omega arith))

pub all_append : (xs ys : List ℕ) → all_bases (xs ++ ys) ≡ (all_bases xs && all_bases ys)
unfolding all_bases
all_append [] ys = refl
all_append (x ∷ xs) ys = rw (all_append xs ys) (and_assoc (ltb (base_of x) 4) (all_bases xs) (all_bases ys))

pub pack_append : (n : ℕ) (xs ys : List ℕ) → pack_on n (xs ++ ys) ≡ pack_on (pack_on n xs) ys
unfolding pack_on
pack_append n [] ys = refl
pack_append n (x ∷ xs) ys = pack_append (n * 4 + base_of x) xs ys

-- letters after those that n packs: n moved up, and the letters by themselves
pub pack_on_lem : (n : ℕ) (xs : List ℕ) → pack_on n xs ≡ n * 2 ^ (2 * length xs) + packed xs
unfolding packed pack_on
pack_on_lem n [] = omega arith
pack_on_lem n (x ∷ xs) =
    let b = base_of x in
    let p : ℕ = 2 ^ (2 * length xs) in
    let here : pack_on (n * 4 + b) xs ≡ (n * 4 + b) * p + pack_on 0 xs = pack_on_lem (n * 4 + b) xs in
    let alone : pack_on (0 * 4 + b) xs ≡ (0 * 4 + b) * p + pack_on 0 xs = pack_on_lem (0 * 4 + b) xs in
    let moved : n * 4 * p ≡ n * (p * 4) = mul_assoc n 4 p ∙ rw (mul_comm 4 p) in
    rw (pow_two (length xs)) (omega (arith, here, alone, moved, add-mul (n * 4) b p, add-mul (0 * 4) b p))

pub packed_cons : (x : ℕ) (xs : List ℕ) → packed (x ∷ xs) ≡ base_of x * 2 ^ (2 * length xs) + packed xs
unfolding packed pack_on
packed_cons x xs =
    let e : 0 * 4 + base_of x ≡ base_of x = omega arith in
    rw e (pack_on_lem (base_of x) xs)

pub packed_append : (xs ys : List ℕ) → packed (xs ++ ys) ≡ packed xs * 2 ^ (2 * length ys) + packed ys
unfolding packed
packed_append xs ys = pack_append 0 xs ys ∙ pack_on_lem (pack_on 0 xs) ys

pub packed_snoc : (xs : List ℕ) (x : ℕ) → packed (xs ++ x ∷ []) ≡ packed xs * 4 + base_of x
unfolding packed pack_on
packed_snoc xs x = pack_append 0 xs (x ∷ [])

packed_nil : packed [] < 2 ^ 0
unfolding packed pack_on
packed_nil = omega arith

-- k bases take 2 * k bits
pub packed_lt : (xs : List ℕ) → all_bases xs ≡ true → packed xs < 2 ^ (2 * length xs)
unfolding all_bases
packed_lt [] h = packed_nil
packed_lt (x ∷ xs) h =
    let two = and_true (ltb (base_of x) 4) (all_bases xs) h in
    let b : base_of x ≤ 3 = omega (arith, ltb-true (base_of x) 4 two.0) in
    rw (pow_two (length xs)) (omega (arith, packed_cons x xs, packed_lt xs two.1, mul-le-mul_right (2 ^ (2 * length xs)) b))

-- at most 31 bases take at most 62 bits
pub packed_62 : (xs : List ℕ) → all_bases xs ≡ true → length xs ≤ 31 → packed xs < 2 ^ 62
packed_62 xs h l =
    let m : 2 ^ (2 * length xs) ≤ 2 ^ 62 = pow_mono {i = 2 * length xs} {j = 62} (omega arith) in
    omega (arith, packed_lt xs h)
