-- After n turns the first n entries are turned back. Assumes nothing.
use Rattle.std.proofs.Common.{◌≡◌}
use Rattle.entries.specs.Layout.{turn_entries}
use Rattle.entries.proofs.turn_entries.Given as goal

abbrev pub invariant-loop-n : goal.invariant-loop-n
invariant-loop-n l = l.list ≡ turn_entries l.letters l.initial.list l.n
