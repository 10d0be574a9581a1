-- `output::entry_of` meets its contract: each number is read from its place. Assumes nothing.
use Rattle.output.specs.Output.{entry_of}
use Rattle.output.proofs.entry_of.Goals as goal

pub returns : goal.returns
unfolding entry_of
returns c =
    rw (c.from.ensures, c.from-2.ensures, c.from-3.ensures, c.from-4.ensures, c.from-5.ensures)
