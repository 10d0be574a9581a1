-- What a search takes and gives, as the numbers of the definitions: one more than a running number, and 0 for none. Assumes nothing.
use Rattle.std.specs.Prelude.{ℕ, ◌+◌, Option, Some, None}
use Rattle.predecessors.specs.declared.Near.{Near}

abbrev pub number_of : Option ℕ → ℕ
number_of None = 0
number_of (Some g) = g + 1

abbrev pub near_of : Option Near → ℕ
near_of None = 0
near_of (Some near) = near.record + 1

abbrev pub column_of : Option Near → ℕ
column_of None = 0
column_of (Some near) = near.column
