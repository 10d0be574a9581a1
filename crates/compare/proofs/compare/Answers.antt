-- `compare::compare` meets its contract: it refuses by the checks, or is the job on the codes of its own letters. Assumes nothing.
use Rattle.compare.proofs.Entries.{refuses, fits, compares}
use Rattle.compare.proofs.compare.Goals as goal

pub returns-in_err-coded : goal.returns-in_err-coded
returns-in_err-coded c = refuses _ _ _ c.in_err-coded.field-0.0 c.in_err-coded.ensures c.from_residual.result c.from_residual.ensures.1 _ _

pub compare_coded-requires : goal.compare_coded-requires
compare_coded-requires c = fits _ _ _ c.in_ok-coded.ensures

pub returns : goal.returns
returns c = compares _ _ _ c.in_ok-coded.ensures _ _ c.compare_coded.ensures
