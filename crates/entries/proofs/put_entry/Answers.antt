-- `entries::put_entry` meets its contract: six stores, one after the other, from the entry's first number. Assumes nothing.
use native.Mathlib.Numerals.{towards_suc}
use Rattle.entries.specs.Layout.{put_entry}
use Rattle.entries.proofs.put_entry.Goals as goal

pub returns : goal.returns
unfolding put_entry
returns c =
    simp towards_suc
