-- The forward strand is looked up as it stands, and the reverse strand mirrored. Assumes nothing.
use Rattle.mirrored.proofs.Strands.{rows_few, forward_columns}
use Rattle.mirrored.proofs.strand.Goals as goal

pub forward-requires-clause-few_rows : goal.forward-requires-clause-few_rows
forward-requires-clause-few_rows c = rows_few c.requires.fits

pub returns-then-strand-eq0 : goal.returns-then-strand-eq0
returns-then-strand-eq0 c = forward_columns c.requires.fits c.if-strand-eq0.true c.forward.ensures.first_columns c.forward.ensures.next_columns
