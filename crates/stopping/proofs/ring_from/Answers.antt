-- `stopping::ring_from` meets its contract: a remainder and what it lacks of the size make the size. Assumes nothing.
use mathlib.Core.Path.{refl}
use Rattle.stopping.proofs.Runs.{ring_even, ring_odd}
use Rattle.stopping.proofs.ring_from.Goals as goal

pub returns-then-over-eq0 : goal.returns-then-over-eq0
returns-then-over-eq0 c =
    ring_even c.args.size c.args.before _ refl refl c.if-over-eq0.true

pub returns : goal.returns
returns c =
    ring_odd c.args.size c.args.before _ refl c.requires.le_size refl c.if-over-eq0.false
