-- What holding a slice against codes comes to. Assumes nothing.
use Rattle.std.specs.Prelude.{Bool, true, false, ℕ, Result, Ok, Err}
use Rattle.index.specs.declared.WrongSlice.{WrongSlice}

-- whether it begins with their index, and either way how many places that has
abbrev pub held_of : Bool → ℕ → Result ℕ WrongSlice
held_of true places = Ok places
held_of false places = Err (record { places = places })
