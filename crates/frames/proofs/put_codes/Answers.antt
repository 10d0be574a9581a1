-- Assumes nothing.
use Rattle.std.proofs.Common.{inr, arith}
use Rattle.std.proofs.lemmas.Result.{err_from_is_err_and}
use Rattle.frames.proofs.Frames.{copied_more}
use Rattle.frames.proofs.put_codes.Goals as goal

pub loop-n-preserved : goal.loop-n-preserved
loop-n-preserved c = copied_more _ _ _ c.loop-n-test.true (omega arith) c.in_ok-codes.ensures.1 c.loop-n.invariant

pub returns-in_err-codes : goal.returns-in_err-codes
returns-in_err-codes c =
    let p = err_from_is_err_and c.from_residual.result c.from_residual.ensures.1 in
    rw p.1 (p.2, inr (c.loop-n.n, c.loop-n-test.true, omega (arith, c.in_err-codes.ensures)))
