-- `refusals::check_letters` meets its contract: its one line applies or does not. Assumes nothing.
use Rattle.std.proofs.Common.{sym, arith}
use Rattle.letters.proofs.FirstBad.{placed, unplaced}
use Rattle.refusals.proofs.Checking.{letters_6, letters_0}
use Rattle.refusals.proofs.check_letters.Goals as goal

pub returns-in-Some : goal.returns-in-Some
returns-in-Some c sequence =
    let bad = placed c.in-Some.ensures in
    sym (letters_6 sequence c.args.s.now bad.0 bad.1)

pub returns-in-None : goal.returns-in-None
returns-in-None c sequence = sym (letters_0 sequence c.args.s.now (sym (unplaced c.in-None.ensures)) (omega arith))
