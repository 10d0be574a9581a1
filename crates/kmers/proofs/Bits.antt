-- Shifts and ors are arithmetic here, since no bit is lost: k bases take at most 62 of the 64. Assumes nothing.
use mathlib.Core.Path.{◌≡◌}
use Prim.Native.Nat.{ℕ, ◌+◌, ◌*◌, ◌%◌, ◌^◌, ◌<◌, ◌≤◌}
use native.Mathlib.Omega.{arith}
use lib.Bits.{bit_or, or_shifted}
use lib.Pow.{pow-lt}

-- (code << 2) | base
pub push_bits : (code base : ℕ) → code < 2 ^ 62 → base < 4 → bit_or ((code * 4) % 2 ^ 64) base ≡ code * 4 + base
push_bits code base hc hb =
    let e : (code * 4) % 2 ^ 64 ≡ code * 4 = omega arith in
    rw e (or_shifted code 2 base hb)

-- 1 << 2 * k
pub one_shifted : (k : ℕ) → k ≤ 31 → (1 * 2 ^ (2 * k)) % 2 ^ 64 ≡ 2 ^ (2 * k)
one_shifted k h =
    let l : 2 ^ (2 * k) < 2 ^ 64 = pow-lt {i = 2 * k} {j = 64} (omega arith) in
    omega arith
