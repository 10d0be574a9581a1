-- Matches counted over rows: what a test counts in rows lo + 1 to hi is what it counts up to row hi without what it counts up to row lo, since matches
-- are listed row by row. Assumes nothing.
use mathlib.Core.Path.{◌≡◌, refl}
use mathlib.Core.Bool.{Bool, true}
use Prim.Native.Nat.{ℕ, suc, ◌+◌, ◌-◌, ◌≤◌, ◌<◌}
use native.Mathlib.Nat.{le_refl}
use native.Mathlib.Decide.{le_ind}
use native.Mathlib.Omega.{arith}
use lib.Dec.{T}
use lib.ListN.{length}
use Rattle.rules.specs.declared.Cell.{Cell}
use Rattle.rules.specs.Lists.{count}
use Rattle.rules.specs.Matches.{row_to, matches_to}
use Rattle.rules.specs.Rooms.{in_run}
use Rattle.rules.proofs.Tests.{tests, T_true}
use Rattle.rules.proofs.ListLaws.{count_append, count_none}
use Rattle.rules.proofs.MatchList.{row_in, matches_in}
use Rattle.tally.proofs.Counting.{count_same, count_all}

module _ (hit : Cell → Bool) (columns : ℕ) where
  pub matches_row : (f : Cell → Bool) (n : ℕ)
      → count f (matches_to hit columns (suc n)) ≡ count f (matches_to hit columns n) + count f (row_to hit (suc n) columns)
  unfolding matches_to
  matches_row f n = count_append f (matches_to hit columns n) (row_to hit (suc n) columns)

  -- g is f on the rows after lo, and passes none up to lo
  pub rows_from : (f g : Cell → Bool) (lo hi : ℕ) → lo ≤ hi → ((x : Cell) → lo < x.row → x.row ≤ hi → g x ≡ f x)
      → ((x : Cell) → 1 ≤ x.row → x.row ≤ lo → ¬ T (g x))
      → count f (matches_to hit columns lo) + count g (matches_to hit columns hi) ≡ count f (matches_to hit columns hi)
  rows_from f g lo hi h same early =
      le_ind (λ (k : ℕ). k ≤ hi → count f (matches_to hit columns lo) + count g (matches_to hit columns k) ≡ count f (matches_to hit columns k))
      (λ _. omega (arith, count_none g (matches_to hit columns lo) (λ x m. let r = matches_in hit columns lo x m in early x r.row_from r.row_until)))
      (λ k l ih u. omega (
        arith,
        ih (omega arith),
        matches_row f k,
        matches_row g k,
        count_same g f (row_to hit (suc k) columns) (λ x m. let r = (row_in hit (suc k) columns x m).row_is in same x (omega arith) (omega arith)),
      ))
      hi h (le_refl hi)

  -- g passes none after row hi
  rows_to : (g : Cell → Bool) (hi n : ℕ) → hi ≤ n → ((x : Cell) → hi < x.row → ¬ T (g x))
      → count g (matches_to hit columns n) ≡ count g (matches_to hit columns hi)
  rows_to g hi n h late =
      le_ind (λ (k : ℕ). count g (matches_to hit columns k) ≡ count g (matches_to hit columns hi)) refl
      (λ k l ih. omega (
        arith,
        ih,
        matches_row g k,
        count_none g (row_to hit (suc k) columns) (λ x m. late x (omega (arith, (row_in hit (suc k) columns x m).row_is))),
      ))
      n h

  -- the run of row i + 1: what rows 1 to i + 1 have without rows 1 to i - b
  pub run_size : (b i n : ℕ) → suc i ≤ n
      → length (matches_to hit columns (i - b)) + count (in_run b (suc i)) (matches_to hit columns n) ≡ length (matches_to hit columns (suc i))
  unfolding in_run
  run_size b i n h =
      omega (
        arith,
        rows_to (in_run b (suc i)) (suc i) n h (λ x l t. let g = simp (in_run, tests) at t in omega arith),
        rows_from (λ _. true) (in_run b (suc i)) (i - b) (suc i) (omega arith)
            (λ x l u. T_true (in_run b (suc i) x) (simp (in_run, tests) (omega arith)))
            (λ x k l t. let g = simp (in_run, tests) at t in omega arith),
        count_all (matches_to hit columns (i - b)),
        count_all (matches_to hit columns (suc i)),
      )
