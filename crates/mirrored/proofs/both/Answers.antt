-- Without a reverse strand there are no rows to walk. Assumes nothing.
use mathlib.Core.Path.{refl}
use Rattle.mirrored.proofs.Strands.{rows_few, forward_columns, forward_alone, both_strands}
use Rattle.mirrored.proofs.both.Goals as goal

pub forward-requires-clause-few_rows : goal.forward-requires-clause-few_rows
forward-requires-clause-few_rows c = rows_few c.requires.fits

pub returns-then-c-eq0 : goal.returns-then-c-eq0
returns-then-c-eq0 c =
    forward_alone (forward_columns c.requires.fits refl c.forward.ensures.first_columns c.forward.ensures.next_columns) c.if-c-eq0.true

pub returns : goal.returns
returns c =
    both_strands (forward_columns c.requires.fits refl c.forward.ensures.first_columns c.forward.ensures.next_columns) c.if-c-eq0.false c.reverse.ensures
