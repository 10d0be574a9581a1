-- Where a code would stand among ordered places. Assumes nothing.
use Rattle.std.specs.Prelude.{List, ℕ, ◌<◌, ◌≤◌, get_or}

-- of the first m ordered places those before lo have codes below c, and those from hi on have not
pub record Lower (second order : List ℕ) (m c lo hi : ℕ) : Type 0 where
  pub within : lo ≤ hi
  pub upto : hi ≤ m
  pub low : (q : ℕ) → q < lo → get_or second (get_or order q 0) 0 < c
  pub high : (q : ℕ) → hi ≤ q → q < m → c ≤ get_or second (get_or order q 0) 0
