-- `chain` is safe: what was read lies within the input buffer, and what was written within the output buffer. Assumes nothing of its own.
use Rattle.std.proofs.Common.{sym}
use Rattle.std.proofs.Math.Seq.{length-take-le}
use Rattle.exchange.proofs.Bounded.{written_inside}
use Rattle.chain.proofs.main.Goals as goal

pub slice_bounds-output-end : goal.slice_bounds-output-end
slice_bounds-output-end c = written_inside _ _ _ _ c.answer-written.ensures.value c.answer-written.ensures.output_after

pub slice_bounds-write_all-end : goal.slice_bounds-write_all-end
slice_bounds-write_all-end c =
    let w = c.answer-written in sym (length-take-le w.result w.new.output (written_inside _ _ _ _ w.ensures.value w.ensures.output_after))
