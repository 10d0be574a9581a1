-- `sweep::hold_run` meets its contract: what the room holds after the last row is its run, and the slots begin at 0. Assumes nothing.
use Rattle.sweep.proofs.Ending.{none_latest, holds_run}
use Rattle.sweep.proofs.hold_run.Goals as goal

pub returns : goal.returns
returns c =
    holds_run c.requires.sweep_safe c.requires.nexts_bound c.requires.b_value c.sweep-swept.ensures c.sweep-swept.auto.room c.zero_after.ensures

pub sweep-swept-requires : goal.sweep-swept-requires
sweep-swept-requires c =
    record { sweep_safe = c.requires.sweep_safe; none_latest = none_latest }
