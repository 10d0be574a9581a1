-- `listing::is_open` meets its contract: none of the columns looked at so far has a later record. Assumes nothing.
use mathlib.Core.Path.{◌≡◌}
use mathlib.Core.Bool.{false}
use Prim.Native.Nat.{◌-◌}
use Rattle.listing.specs.Leaving.{later_in, some_from}
use Rattle.listing.proofs.is_open.Given as goal

abbrev pub invariant-loop-q : goal.invariant-loop-q
invariant-loop-q l = some_from (later_in l.latest l.t) l.j (l.q - l.j) ≡ false
