-- `sweep::leaves` meets its contract: up to row b + 1 no row leaves, and then row p - b does where it has a match. Assumes nothing.
use borrow.Author.Tests.{lt-ltb, le-ltb}
use Rattle.sweep.specs.Sweeping.{leaves_at}
use Rattle.sweep.proofs.leaves.Goals as goal

pub returns-in-Some : goal.returns-in-Some
unfolding leaves_at
returns-in-Some c =
    let e = c.in-Some.ensures in
    rw (lt-ltb c.args.b c.args.p e.0, e.2)

pub returns-in-None : goal.returns-in-None
unfolding leaves_at
returns-in-None c = rw (le-ltb c.args.b c.args.p c.in-None.ensures)
