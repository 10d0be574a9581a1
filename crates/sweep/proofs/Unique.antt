-- What a sweep leaves is fixed. Assumes nothing.
use mathlib.Core.Path.{◌≡◌, sym, ◌∙◌}
use mathlib.Core.List.{List}
use Prim.Native.Nat.{ℕ, ◌*◌, ◌≤◌}
use lib.ListN.{length, take}
use Rattle.rules.specs.declared.Settings.{Settings}
use Rattle.listing.proofs.Unique.{listed_one}
use Rattle.sweep.specs.Sweeping.{ListsAll, HoldsRun}

-- any two results of `sweep::hold_run` are equal: how many records, and every number of the room
pub holds_one : {firsts nexts : List ℕ} {c : Settings} {room x y : List ℕ} {n m : ℕ} → HoldsRun firsts nexts c room x n → HoldsRun firsts nexts c room y m
    → (n ≡ m) × (x ≡ y)
holds_one a b = (a.counted ∙ sym b.counted, a.held ∙ sym b.held)

-- any two results of `sweep::list_all` are equal in what they state: how many entries, and their numbers where the room holds them
pub lists_one : {firsts nexts : List ℕ} {c : Settings} {x y : List ℕ} {n m : ℕ} → ListsAll firsts nexts c x n → ListsAll firsts nexts c y m
    → (n ≡ m) × (6 * n ≤ length x → 6 * m ≤ length y → take (6 * n) x ≡ take (6 * m) y)
lists_one a b = listed_one a.entered b.entered
