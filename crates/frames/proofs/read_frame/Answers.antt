-- What is wrong with a line, by its number. Assumes nothing.
use Rattle.std.proofs.Common.{ap, ◌∙◌}
use Rattle.rules.specs.Lists.{then_zeros}
use Rattle.frames.specs.Frames.{FrameRead, numbers_read}
use Rattle.frames.proofs.read_frame.Goals as goal

pub returns-in-Err : goal.returns-in-Err
unfolding numbers_read then_zeros
returns-in-Err c = (c.number.ensures ∙ ap (λ (x : FrameRead). x.number) c.in-Err.ensures, ap (λ (x : FrameRead). x.values) c.in-Err.ensures)
