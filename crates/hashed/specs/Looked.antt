-- What a search answers, as a number. Assumes nothing.
use Rattle.std.specs.Prelude.{ℕ, suc, Option, Some, None, Result, Ok, Err}
use Rattle.hashed.specs.declared.LongList.{LongList}

-- the column that was found, 0 for none, or past the n columns where a list is too long
abbrev pub looked : ℕ → Result (Option ℕ) LongList → ℕ
looked n (Ok None) = 0
looked n (Ok (Some x)) = x
looked n (Err e) = suc n
