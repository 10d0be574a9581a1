-- `Window::slide` meets its contract: a window close by is told from the one that is held, any other is summed. Assumes nothing.
use Rattle.std.proofs.Common.{◌+◌, ◌-◌, ◌%◌, ◌^◌, arith, refl}
use Rattle.windows.specs.Windows.{window_sum}
use Rattle.windows.proofs.Windows.{same_sum, window_slid, sub_back}
use Rattle.windows.proofs.Window.slide.Goals as goal

pub returns-then-j-at-clause-summed : goal.returns-then-j-at-clause-summed
returns-then-j-at-clause-summed c =
    window_slid c.args.counts.now c.args.self.now.b c.args.self.now.at c.args.j c.if-at-j.true {entered = (c.args.self.now.held + c.sum.result) % 2 ^ 32} c.requires.window_holds.sum
    (rw (same_sum c.args.counts.now _ _ (c.args.self.now.at + 1) (c.args.j + 1 - (c.args.self.now.at + 1)) c.sum.ensures (omega arith) (omega arith)) refl)
    (rw (same_sum c.args.counts.now _ _ (c.args.self.now.at - c.args.self.now.b) (c.args.j - c.args.self.now.b - (c.args.self.now.at - c.args.self.now.b)) c.sum-then-j-at.ensures (omega arith)
    (omega (arith, c.saturating_sub.ensures, c.saturating_sub-then-j-at.ensures))) (sub_back _ _ (omega arith) (omega arith)))
    (omega arith)

pub returns-else-at-j-clause-summed : goal.returns-else-at-j-clause-summed
unfolding window_sum
returns-else-at-j-clause-summed c =
    same_sum c.args.counts.now _ _ (c.args.j - c.args.self.now.b) (c.args.j + 1 - (c.args.j - c.args.self.now.b)) c.sum-held.ensures (omega (arith, c.saturating_sub-else-at-j.ensures))
    (omega (arith, c.saturating_sub-else-at-j.ensures))
