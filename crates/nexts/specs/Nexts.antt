-- The next column of each column. Columns are counted from 1, and 0 says that there is none. Assumes nothing.
use Rattle.std.specs.Prelude.{◌≡◌, cond, List, ℕ, suc, ◌<◌, ◌≤◌, eqb, get_or, length}
use Rattle.rules.specs.Codes.{code_at}
use Rattle.ownership.specs.Owners.{first_in}

-- the next column after column j with the same k-mer
unfoldable pub next_column : List ℕ → ℕ → ℕ
unfolding code_at first_in
next_column second j = cond (eqb (code_at second j) 0) 0 (first_in second (code_at second j) j (length second))

-- index p has the next column of column p + 1, for every column; behind them nexts is as it was
pub record NextColumns (second nexts₀ nexts : List ℕ) : Type 0 where
  pub long : length nexts ≡ length nexts₀
  pub columns : (p : ℕ) → p < length second → get_or nexts p 0 ≡ next_column second (suc p)
  pub others : (p : ℕ) → length second ≤ p → get_or nexts p 0 ≡ get_or nexts₀ p 0
