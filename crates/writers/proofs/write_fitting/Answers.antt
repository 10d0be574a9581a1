-- Values that do not fit refuse; else the line's writer answers for the kind's byte. Assumes nothing.
use mathlib.Core.Bool.{◌&&◌}
use lib.Dec.{leb}
use lib.ListN.{length}
use Rattle.writers.proofs.Writers.{not_fitting, when_fitting}
use Rattle.writers.proofs.write_fitting.Goals as goal

pub returns-then-fits : goal.returns-then-fits
returns-then-fits c =
    let both = when_fitting _ c.args.payload.now c.args.out.now _ _ _ c.if-fits.true (rw c.byte.ensures at c.write_line.ensures.value) (rw c.byte.ensures at c.write_line.ensures.out_after) in
    record { value = both.0; out_after = both.1 }

pub returns-else-fits : goal.returns-else-fits
returns-else-fits c =
    let both = not_fitting _ c.args.out.now (c.args.fits && leb (length c.args.payload.now) 64) (rw c.if-fits.false) in
    record { value = both.0; out_after = both.1 }
