-- A capital is looked up, and any other byte has nothing. Assumes nothing.
use native.Mathlib.Omega.{arith}
use Rattle.letters.proofs.Capitals.{capital, other}
use Rattle.letters.proofs.at_capital.Goals as goal

pub returns-then-byte-gt90 : goal.returns-then-byte-gt90
returns-then-byte-gt90 c =
    other c.args.table.now c.args.byte c.if-byte-gt90.either

pub returns-else-byte-gt90 : goal.returns-else-byte-gt90
returns-else-byte-gt90 c =
    let h = c.if-byte-gt90.false in
    rw c.from.ensures (capital c.args.table.now c.args.byte (omega arith) (omega arith))
