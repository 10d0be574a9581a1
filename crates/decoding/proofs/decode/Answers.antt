use Rattle.std.proofs.Common.{◌≡◌, ◌+◌, ◌*◌, ◌<◌, ◌≤◌, length, get_or, arith}
use Rattle.decoding.specs.Digits.{nibble_of}
use Rattle.decoding.proofs.Decoding.{pair_at, some_half, decoding_next, decoded_bytes, decoded_count, decoded_sum}
use Rattle.decoding.proofs.decode.Goals as goal

pub loop-i-preserved : goal.loop-i-preserved
loop-i-preserved c =
    let h : c.unwrap-high.result ≡ nibble_of (get_or c.args.line.now (2 * c.loop-i.i) 0) = rw c.unwrap-high.ensures at c.nibble.ensures.value in
    let l : c.unwrap-low.result ≡ nibble_of (get_or c.args.line.now (2 * c.loop-i.i + 1) 0) = rw c.unwrap-low.ensures at c.nibble-in-loop-i.ensures.value in
    decoding_next _ _ _ _ _ _ (omega arith) (omega (arith, c.join-byte.ensures, h, l)) c.loop-i.invariant

pub unwrap-high-requires : goal.unwrap-high-requires
unwrap-high-requires c =
    let h : 2 * c.loop-i.i + 1 < length c.args.line.now = omega arith in
    some_half _ _ c.nibble.ensures.value (pair_at _ _ h c.loop-i.invariant.ok).high

pub unwrap-low-requires : goal.unwrap-low-requires
unwrap-low-requires c =
    let h : 2 * c.loop-i.i + 1 < length c.args.line.now = omega arith in
    some_half _ _ c.nibble-in-loop-i.ensures.value (pair_at _ _ h c.loop-i.invariant.ok).low

pub returns : goal.returns
returns c =
    let h : length c.args.line.now ≤ 2 * c.loop-i.i + 1 = omega arith in
    record {
      count_value = (omega (arith, decoded_count _ _ _ _ _ h c.loop-i.invariant), decoded_sum _ _ _ _ _ h c.loop-i.invariant);
      bytes_after = decoded_bytes _ _ _ _ _ h c.loop-i.invariant;
    }
