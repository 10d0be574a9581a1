-- Runs of equal keys in an index, a run read from the last letter of the sequence, and codes read from the last place. Assumes nothing.
use Rattle.std.specs.Prelude.{◌≡◌, List, ℕ, ◌+◌, ◌-◌, ◌<◌, ◌≤◌, length, get_or}

-- the run of keys equal to key `from`, of the first n, ends before `to`
pub record RunTo (keys : List ℕ) (from n to : ℕ) : Type 0 where
  pub some : from < to
  pub upto : to ≤ n
  pub same : (q : ℕ) → from ≤ q → q < to → get_or keys q 0 ≡ get_or keys from 0
  pub other : to < n → get_or keys to 0 ≡ get_or keys from 0 → ⊥

-- every number of a slice from one index to another is a place of so many columns
pub record Within (index : List ℕ) (columns from to : ℕ) : Type 0 where
  pub within : (q : ℕ) → from ≤ q → q < to → get_or index q 0 ≤ columns

-- out has the numbers of the slice from one index up to another as they count from the last of so many columns, the last number first; elsewhere it is as
-- it was
pub record RunTurned (index : List ℕ) (columns from to : ℕ) (out₀ out : List ℕ) : Type 0 where
  pub long : length out ≡ length out₀
  pub inside : (q : ℕ) → from ≤ q → q < to → get_or out q 0 ≡ columns + 1 - get_or index (from + (to - 1 - q)) 0
  pub below : (q : ℕ) → q < from → get_or out q 0 ≡ get_or out₀ q 0
  pub above : (q : ℕ) → to ≤ q → get_or out q 0 ≡ get_or out₀ q 0
