-- The bits of k bases keep the remainder by 2 ^ (2 * k). Assumes nothing.
use Prim.Native.Nat.{◌*◌}
use lib.Bits.{and_mask}
use Rattle.kmers.proofs.roll.Goals as goal

pub returns : goal.returns
returns c =
    rw (c.requires.bits_value, c.push.ensures) (and_mask _ (2 * c.args.k))
