use Rattle.pieces.proofs.Unpacking.{letters_fit, storing_next, storing_end}
use Rattle.pieces.proofs.put_letters.Goals as goal

pub put_byte-place-requires : goal.put_byte-place-requires
put_byte-place-requires c =
    letters_fit _ _ _ _ _ _ c.loop-byte-test.true c.loop-byte.invariant c.requires.payload_in_bounds

pub loop-byte-preserved : goal.loop-byte-preserved
loop-byte-preserved c =
    storing_next _ _ _ _ _ _ c.loop-byte-test.true c.loop-byte.invariant _ _ c.put_byte-place.ensures.value c.put_byte-place.ensures.letters_after

pub returns : goal.returns
returns c =
    storing_end _ _ _ _ _ _ c.loop-byte-test.false c.loop-byte.invariant
