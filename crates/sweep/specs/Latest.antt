-- The latest record of each column before the first row: none. Assumes nothing.
use Rattle.std.specs.Prelude.{◌≡◌, List, ℕ, length, get_or}

pub record NoneLatest (latest : List ℕ) : Type 0 where
  pub wide : length latest ≡ 16385
  pub empty : (q : ℕ) → get_or latest q 0 ≡ 0
