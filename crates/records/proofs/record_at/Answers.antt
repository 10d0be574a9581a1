-- `records::record_at` meets its contract: each number is read from its place. Assumes nothing.
use mathlib.Core.Path.{refl}
use Rattle.records.specs.Layout.{record_in}
use Rattle.records.proofs.record_at.Goals as goal

pub returns : goal.returns
unfolding record_in
returns c =
    refl
