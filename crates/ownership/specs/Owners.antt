-- The owner of a code: the first column of the second sequence that has it. Columns are counted from 1, and 0 says that there is none.
-- Assumes nothing.
use Rattle.std.specs.Prelude.{◌≡◌, cond, ◌&&◌, List, ℕ, zero, suc, ◌<◌, ◌≤◌, eqb, ltb, leb, get_or, length}

-- the first column after column lo, among the first n, whose code is c
unfoldable pub first_in : List ℕ → ℕ → ℕ → ℕ → ℕ
first_in second c lo zero = 0
first_in second c lo (suc n) =
    let r = first_in second c lo n in
    cond (ltb 0 r) r (cond (leb lo n && eqb (get_or second n 0) c) (suc n) 0)

-- the owner of the code c; 0, which is no k-mer's code, has none
unfoldable pub own_of : List ℕ → ℕ → ℕ
unfolding first_in
own_of second c = cond (eqb c 0) 0 (first_in second c 0 (length second))

-- index p has a k-mer that no earlier index has
pub record FirstAt (second : List ℕ) (p : ℕ) : Type 0 where
  pub kmer : get_or second p 0 ≡ 0 → ⊥
  pub new : (q : ℕ) → q < p → get_or second q 0 ≡ get_or second p 0 → ⊥

-- own holds the owner of each of the first n codes, and behind them is as it was
pub record Owned (second codes own₀ own : List ℕ) (n : ℕ) : Type 0 where
  pub long : length own ≡ length own₀
  pub owners : (p : ℕ) → p < n → get_or own p 0 ≡ own_of second (get_or codes p 0)
  pub others : (p : ℕ) → n ≤ p → get_or own p 0 ≡ get_or own₀ p 0

-- own is as long as it was, and behind its first n numbers as it was
pub record Kept (own₀ own : List ℕ) (n : ℕ) : Type 0 where
  pub long : length own ≡ length own₀
  pub others : (p : ℕ) → n ≤ p → get_or own p 0 ≡ get_or own₀ p 0

-- own holds the owner of every column's code
pub record Owns (second own : List ℕ) : Type 0 where
  pub owners : (p : ℕ) → p < length second → get_or own p 0 ≡ own_of second (get_or second p 0)
