-- One letter or two, by the low half. Assumes nothing.
use native.Mathlib.Omega.{arith}
use lib.ListN.{length-set}
use Rattle.pieces.proofs.Unpacking.{one_letter, two_letters, codes_some, codes_two}
use Rattle.pieces.proofs.put_byte.Goals as goal

pub bounds-letters-at : goal.bounds-letters-at
bounds-letters-at c =
    omega (arith, c.requires, codes_some c.args.byte)

pub bounds-letters-at-else-halves-eq0 : goal.bounds-letters-at-else-halves-eq0
bounds-letters-at-else-halves-eq0 c =
    simp length-set (omega (arith, c.requires, codes_two c.args.byte _ c.split-halves.ensures.1 c.if-halves-eq0.false))

pub returns-then-halves-eq0 : goal.returns-then-halves-eq0
returns-then-halves-eq0 c =
    let both = one_letter c.args.letters.now c.args.at c.args.byte _ _ _ c.split-halves.ensures.0 c.split-halves.ensures.1 c.letter.ensures c.if-halves-eq0.true in
    record { value = both.0; letters_after = both.1 }

pub returns-else-halves-eq0 : goal.returns-else-halves-eq0
returns-else-halves-eq0 c =
    let both = two_letters c.args.letters.now c.args.at c.args.byte _ _ _ c.split-halves.ensures.0 c.split-halves.ensures.1 c.letter.ensures _ c.letter-else-halves-eq0.ensures
    c.if-halves-eq0.false in
    record { value = both.0; letters_after = both.1 }
