-- Indices written as places. Assumes nothing.
use Rattle.std.specs.Prelude.{◌≡◌, List, ℕ, suc, ◌<◌, ◌≤◌, length, get_or}

-- the first n numbers of index are places, one more than those of order; behind them it is as it was
pub record Raised (order index₀ index : List ℕ) (n : ℕ) : Type 0 where
  pub long : length index ≡ length index₀
  pub places : (q : ℕ) → q < n → get_or index q 0 ≡ suc (get_or order q 0)
  pub others : (q : ℕ) → n ≤ q → get_or index q 0 ≡ get_or index₀ q 0

-- the first n numbers are below 16,384
pub record Small (order : List ℕ) (n : ℕ) : Type 0 where
  pub small : (q : ℕ) → q < n → get_or order q 0 < 16384
