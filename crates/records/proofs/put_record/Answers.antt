-- `records::put_record` meets its contract: eight stores, one after the other, from the slot's first number. Assumes nothing.
use native.Mathlib.Numerals.{towards_suc}
use Rattle.records.specs.Layout.{put_record}
use Rattle.records.proofs.put_record.Goals as goal

pub returns : goal.returns
unfolding put_record
returns c =
    simp towards_suc
