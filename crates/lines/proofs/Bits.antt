-- Shifts and masks of bytes as arithmetic, since the masked and the shifted bits lie apart. Assumes nothing.
use Rattle.std.proofs.Common.{◌≡◌, ℕ, ◌+◌, ◌*◌, ◌%◌, ◌<◌, arith}
use lib.Bits.{bit_and, bit_or, or_shifted, and_mask}

pub low_half : (byte : ℕ) → bit_and byte 15 ≡ byte % 16
low_half byte = and_mask byte 4

pub joined : (high low : ℕ) → high < 16 → low < 16 → bit_or ((high * 16) % 256) low ≡ high * 16 + low
joined high low h l =
    let e : (high * 16) % 256 ≡ high * 16 = omega arith in
    rw e (or_shifted high 4 low l)
