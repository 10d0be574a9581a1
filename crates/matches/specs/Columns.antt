-- The first column that each row matches. Rows and columns are counted from 1, and 0 says that there is none. Assumes nothing.
use Rattle.std.specs.Prelude.{◌≡◌, cond, List, ℕ, suc, ◌<◌, ◌≤◌, leb, get_or, length}
use Rattle.rules.specs.Codes.{code_at, code_total}
use Rattle.ownership.specs.Owners.{own_of}

-- the first column that row i matches: its code's first column, where the code's total is not above a
unfoldable pub first_column : List ℕ → List ℕ → ℕ → ℕ → ℕ
unfolding code_at code_total own_of
first_column first second a i = cond (leb (code_total first second (code_at first i)) a) (own_of second (code_at first i)) 0

-- index p has the first column of row p + 1, for every row; behind them firsts is as it was
pub record FirstColumns (first second : List ℕ) (a : ℕ) (firsts₀ firsts : List ℕ) : Type 0 where
  pub long : length firsts ≡ length firsts₀
  pub rows : (p : ℕ) → p < length first → get_or firsts p 0 ≡ first_column first second a (suc p)
  pub others : (p : ℕ) → length first ≤ p → get_or firsts p 0 ≡ get_or firsts₀ p 0
