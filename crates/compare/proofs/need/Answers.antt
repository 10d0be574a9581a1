-- `compare::need` meets its contract: the checks refuse, or W is counted from the codes of its own letters. Assumes nothing.
use Rattle.compare.proofs.Entries.{refuses_need, fits, replies}
use Rattle.compare.proofs.need.Goals as goal

pub returns-in_err-coded-clause-value : goal.returns-in_err-coded-clause-value
returns-in_err-coded-clause-value c = refuses_need _ _ _ c.in_err-coded.field-0.0 c.in_err-coded.ensures c.from_residual.result c.from_residual.ensures.1

pub need_coded-requires : goal.need_coded-requires
need_coded-requires c = fits _ _ _ c.in_ok-coded.ensures

pub returns-clause-value : goal.returns-clause-value
returns-clause-value c = replies _ _ _ c.in_ok-coded.ensures c.need_coded.ensures
