-- `refusals::check_length` meets its contract: its one line applies or does not. Assumes nothing.
use Rattle.std.proofs.Common.{sym}
use Rattle.refusals.proofs.Checking.{length_5, length_0}
use Rattle.refusals.proofs.check_length.Goals as goal

pub returns-then-letters-gt16384 : goal.returns-then-letters-gt16384
returns-then-letters-gt16384 c sequence = sym (length_5 sequence c.args.letters c.if-letters-gt16384.true)

pub returns-else-letters-gt16384 : goal.returns-else-letters-gt16384
returns-else-letters-gt16384 c sequence = sym (length_0 sequence c.args.letters c.if-letters-gt16384.false)
