-- The reply to what the writer of the kind answers. Assumes nothing.
use Rattle.std.proofs.Common.{sym, ap, ◌∙◌}
use Rattle.frames.specs.Frames.{reply_of, frame_reply, frame_left}
use Rattle.frames.proofs.Frames.{refused_reply}
use Rattle.frames.proofs.write_frame.Goals as goal

pub returns-in-Ok : goal.returns-in-Ok
unfolding frame_reply frame_left reply_of
returns-in-Ok c = (ap reply_of c.in-Ok.ensures.value, c.in-Ok.ensures.line_after)

pub returns-in-Err : goal.returns-in-Err
unfolding frame_reply frame_left
returns-in-Err c = (sym (refused_reply _) ∙ ap reply_of c.in-Err.ensures.value, c.in-Err.ensures.line_after)
