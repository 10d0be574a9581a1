-- `tally::leaving` meets its contract: up to row b + 1 no row leaves the run, and then row p - b does, with the size walked. Assumes nothing.
use Rattle.tally.proofs.Runs.{row_is, leaves_row, leaves_none}
use Rattle.tally.proofs.leaving.Goals as goal

pub returns-in-Some : goal.returns-in-Some
returns-in-Some c =
    let e = c.in-Some.ensures in
    leaves_row c.args.walk.safe e.0 c.requires (row_is e.1 e.2 c.row_size.ensures)

pub returns-in-None : goal.returns-in-None
returns-in-None c = leaves_none c.args.walk.safe c.in-None.ensures
