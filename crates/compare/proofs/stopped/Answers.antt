-- `compare::stopped` meets its contract: it refuses by the checks, or is the stopped sweep on the codes of its own letters. Assumes nothing.
use Rattle.compare.proofs.Entries.{refuses_stop, fits, stops}
use Rattle.compare.proofs.stopped.Goals as goal

pub returns-in_err-coded : goal.returns-in_err-coded
returns-in_err-coded c = refuses_stop _ _ _ c.in_err-coded.field-0.0 c.in_err-coded.ensures c.from_residual.result c.from_residual.ensures.1 _ _

pub stop_coded-requires : goal.stop_coded-requires
stop_coded-requires c = fits _ _ _ c.in_ok-coded.ensures

pub returns : goal.returns
returns c = stops _ _ _ c.in_ok-coded.ensures _ _ c.stop_coded.ensures
