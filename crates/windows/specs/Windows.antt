-- What a window of columns is, and the sum of its counts. Assumes nothing.
use Rattle.std.specs.Prelude.{◌≡◌, ℕ, zero, suc, ◌+◌, ◌-◌, ◌%◌, ◌^◌, Bool, ◌&&◌, List, length, nat_le, slice_index}

-- the sum of n numbers from index lo on
unfoldable pub sum_from : List ℕ → ℕ → ℕ → ℕ
sum_from counts lo zero = 0
sum_from counts lo (suc n) = sum_from counts lo n + slice_index counts (lo + n)

-- the sum over the window of column j, which is columns j - b to j
unfoldable pub window_sum : List ℕ → ℕ → ℕ → ℕ
unfolding sum_from
window_sum counts b j = sum_from counts (j - b) (j + 1 - (j - b))

-- the window of column `at` holds so much, modulo 2 ^ 32
pub record WindowHolds (counts : List ℕ) (b at held : ℕ) : Type 0 where
  pub places : length counts ≡ 16385
  pub sum : held ≡ window_sum counts b at % 2 ^ 32

-- column q is in the window of column j
unfoldable pub in_window : ℕ → ℕ → ℕ → Bool
in_window b j q = nat_le (j - b) q && nat_le q j
