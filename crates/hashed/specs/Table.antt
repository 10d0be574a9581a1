-- The table of first columns: for each hash a list, the last column first, and each column linked to the one before it with the same hash.
-- Assumes nothing.
use Rattle.std.specs.Prelude.{◌≡◌, List, ℕ, ◌+◌, ◌-◌, ◌*◌, ◌/◌, ◌%◌, ◌<◌, ◌≤◌, get_or, length}
use Rattle.ownership.specs.Owners.{first_in, FirstAt}

unfoldable pub hash_of : ℕ → ℕ
hash_of c = (c % 4294967296 * 1640531527 + c / 4294967296 * 1540483477) / 131072 % 32768

-- r is the last first column of hash h among the first n, 0 for none
pub record Entry (second : List ℕ) (h n r : ℕ) : Type 0 where
  pub within : r ≤ n
  pub first : 0 < r → FirstAt second (r - 1)
  pub same : 0 < r → hash_of (get_or second (r - 1) 0) ≡ h
  pub cover : (p : ℕ) → p < n → FirstAt second p → hash_of (get_or second p 0) ≡ h → p < r

-- the table of the first n columns
pub record Table (second bucket link : List ℕ) (n : ℕ) : Type 0 where
  pub wide : length bucket ≡ 32768
  pub long : length second ≤ length link
  pub part : n ≤ length second
  pub lists : (h : ℕ) → Entry second h n (get_or bucket h 0)
  pub links : (p : ℕ) → p < n → FirstAt second p → Entry second (hash_of (get_or second p 0)) p (get_or link p 0)

-- what a search for c among the first n columns answers when it may look at so many
pub record Found (second : List ℕ) (c n limit r : ℕ) : Type 0 where
  pub first : r ≤ n → r ≡ first_in second c 0 n
  pub sure : n ≤ limit → r ≤ n
