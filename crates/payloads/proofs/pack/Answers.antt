use Rattle.std.proofs.Common.{◌*◌, ◌≤◌, length, arith}
use Rattle.payloads.proofs.Pieces.{code_small, code_low, packing_next, packed_bytes, packed_count}
use Rattle.payloads.proofs.pack.Goals as goal

pub loop-n-preserved : goal.loop-n-preserved
loop-n-preserved c =
    packing_next _ _ _ _ _ _ (omega arith) c.code_at.ensures c.join.ensures c.loop-n.invariant

pub join-requires : goal.join-requires
join-requires c =
    record { high_bound = code_small _ _ c.requires.codes_value; low_bound = code_low _ _ _ c.requires.codes_value c.code_at.ensures }

pub returns : goal.returns
returns c =
    let h : length c.args.codes.now ≤ 2 * c.loop-n.n = omega (arith, c.div_ceil-count.ensures) in
    record {
      value = omega (arith, packed_count _ _ _ _ h c.loop-n.invariant);
      payload_after = packed_bytes _ _ _ _ h c.loop-n.invariant;
    }
