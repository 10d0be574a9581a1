-- The two bits of what is seen of a letter are those of the base that it stands for, and the letter that they belong to is what is seen only where it stands
-- for a base: one test that antt computes over all 256 bytes says so, under either mask setting. Assumes nothing.
use mathlib.Core.Path.{◌≡◌, refl, sym, ap, ◌∙◌}
use mathlib.Core.Bool.{Bool, true, false, cond}
use mathlib.Core.List.{List}
use Prim.Native.Nat.{ℕ, zero, suc, ◌*◌, ◌/◌, ◌^◌, ◌<◌, ◌≤◌}
use native.Mathlib.Omega.{arith}
use lib.Bits.{bit_and, bit_xor, and_le_l}
use lib.Dec.{eqb, ltb, eqb→eq}
use lib.ListN.{get_or}
use borrow.Author.Tests.{lt-ltb, ltb-true, ltb-false}
use Rattle.std.proofs.Common.{Some, None}
use Rattle.std.specs.Bool.{then_some}
use Rattle.std.proofs.lemmas.Option.{cond_some, none-some}
use Rattle.rules.specs.Letters.{stands_for, as_read}
use Rattle.rules.specs.Places.{base_of}
use Rattle.rules.proofs.Computed.{at_each}
use Rattle.rules.proofs.Masks.{read_at}
use Rattle.kmers.specs.Reading.{sees_of, some_base}
use Rattle.rules.proofs.Tests.{T_true}

-- the bits that are looked at
pub sees_most : (mask : ℕ) → mask ≡ 0 → 223 ≡ sees_of mask
unfolding sees_of
sees_most mask e = rw e

pub sees_all : (mask : ℕ) → (mask ≡ 0 → ⊥) → 255 ≡ sees_of mask
unfolding sees_of
sees_all zero n = absurd (n refl)
sees_all (suc m) n = refl

-- the two bits
unfoldable pub two_of : ℕ → ℕ
two_of x = bit_and (bit_xor (x / 2) (x / 4)) 3

-- the base that has these two bits: the four letters in one number, the first lowest
unfoldable pub base_with : ℕ → ℕ
unfolding two_of
base_with x = bit_and (1413956417 / 2 ^ (8 * two_of x)) 255

-- the two bits of what is seen of a letter, 4 where they belong to another
unfoldable looked : ℕ → ℕ → ℕ
unfolding two_of base_with
looked sees x = let seen = bit_and x sees in cond (eqb seen (base_with seen)) (two_of seen) 4

-- what is looked at is a base, whose two bits are these, or none
base_by : {two b : ℕ} (t : Bool) → two < 4 → cond t two 4 ≡ b → then_some t two ≡ some_base b
unfolding some_base
base_by {two} true l e = rw (← e, lt-ltb two 4 l)
base_by false l e = rw (← e)

right : ℕ → ℕ → ℕ → Bool
right sees mask x = eqb (looked sees x) (base_of (stands_for mask x))

looked_right : (mask x : ℕ) → x < 256 → looked (sees_of mask) x ≡ base_of (stands_for mask x)
unfolding looked right base_of stands_for sees_of
looked_right zero x h = eqb→eq (looked 223 x) (base_of (stands_for 0 x)) (at_each (right 223 0) 256 tt x h)
looked_right (suc m) x h = eqb→eq (looked 255 x) (base_of (stands_for (suc m) x)) (at_each (right 255 (suc m)) 256 tt x h)

module _ (x sees : ℕ) (h : x < 256) where
  seen_low : bit_and x sees < 256
  seen_low = let l = and_le_l x sees in omega arith

  pub two_low : two_of (bit_and x sees) < 4
  unfolding two_of
  two_low =
      let y = bit_and x sees in
      ltb-true (two_of y) 4 (T_true (ltb (two_of y) 4) (at_each (λ z. ltb (two_of z) 4) 256 tt y seen_low))

  pub with_low : base_with (bit_and x sees) < 256
  unfolding base_with
  with_low =
      let y = bit_and x sees in
      ltb-true (base_with y) 256 (T_true (ltb (base_with y) 256) (at_each (λ z. ltb (base_with z) 256) 256 tt y seen_low))

  module _ (mask : ℕ) (e : sees ≡ sees_of mask) where
    looked_is : looked sees x ≡ base_of (stands_for mask x)
    looked_is = ap (λ (n : ℕ). looked n x) e ∙ looked_right mask x h

    pub base_seen : then_some (eqb (bit_and x sees) (base_with (bit_and x sees))) (two_of (bit_and x sees)) ≡ some_base (base_of (stands_for mask x))
    unfolding looked
    base_seen = base_by (eqb (bit_and x sees) (base_with (bit_and x sees))) two_low looked_is

-- ---- a base or none

pub base_some : {b n : ℕ} → Some b ≡ some_base n → (b ≡ n) × (n < 4)
unfolding some_base
base_some {b} {n} e = let both = cond_some (ltb n 4) n b (sym e) in (sym both.1, ltb-true n 4 both.0)

pub base_none : {n : ℕ} → None ≡ some_base n → 4 ≤ n
unfolding some_base
base_none {n} e = go (ltb n 4) refl e
  where
    go : (t : Bool) → ltb n 4 ≡ t → None ≡ cond t (Some n) None → 4 ≤ n
    go true f g = absurd (none-some n g)
    go false f g = ltb-false n 4 f

-- a letter of a sequence as it is read
pub base_read : (mask : ℕ) (s : List ℕ) (n : ℕ) {b : ℕ} → b ≡ base_of (stands_for mask (get_or s n 0)) → b ≡ base_of (get_or (as_read mask s) n 0)
base_read mask s n e = e ∙ ap base_of (sym (read_at mask s n))
