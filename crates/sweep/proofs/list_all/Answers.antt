-- `sweep::list_all` meets its contract: after the last row all is released, so that what is listed of the released is the whole listing. Assumes nothing.
use native.Mathlib.Omega.{arith}
use Rattle.sweep.proofs.Ending.{none_latest, lists_all}
use Rattle.sweep.proofs.list_all.Goals as goal

pub returns : goal.returns
returns c =
    lists_all c.requires.sweep_safe c.sweep-swept.ensures c.requires.nexts_bound
    (omega arith) c.release.ensures

pub sweep-swept-requires : goal.sweep-swept-requires
sweep-swept-requires c =
    record { sweep_safe = c.requires.sweep_safe; none_latest = none_latest }
