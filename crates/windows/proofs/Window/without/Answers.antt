-- `Window::without` meets its contract: the column lies in the window, or before it, or after it. Assumes nothing.
use Rattle.std.proofs.Common.{arith}
use Rattle.windows.proofs.Windows.{before_window, after_window, in_window_lem}
use Rattle.windows.proofs.Window.without.Goals as goal
use Rattle.windows.proofs.Window.without.Goals.{else-saturating_sub-q-via-then-saturating_sub-q+else-q-at, else-saturating_sub-q-via-else-saturating_sub-q}

pub returns-then-q-at-clause-less : goal.returns-then-q-at-clause-less
returns-then-q-at-clause-less c =
    rw (in_window_lem c.args.self.now.b c.args.self.now.at c.args.q (omega arith) (omega arith)) (omega arith)

pub returns-else-saturating_sub-q-clause-less : goal.returns-else-saturating_sub-q-clause-less
returns-else-saturating_sub-q-clause-less c =
    elim c.else-saturating_sub-q.branch [
      | else-saturating_sub-q-via-then-saturating_sub-q+else-q-at w ↦ rw (after_window c.args.self.now.b c.args.self.now.at c.args.q (omega arith)) (omega arith)
      | else-saturating_sub-q-via-else-saturating_sub-q w ↦ rw (before_window c.args.self.now.b c.args.self.now.at c.args.q (omega arith)) (omega arith)
    ]
