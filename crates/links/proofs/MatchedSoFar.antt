-- The matches that a walk of row i + 1 has come to: those of rows 1 to i, and of row i + 1 those up to a column; how they grow, and how many they are.
-- Assumes nothing.
use Rattle.std.proofs.Common.{◌≡◌, ℕ, zero, suc, ◌+◌, ◌*◌, ◌^◌, ◌<◌, ◌≤◌, Bool, cond, List, [], ◌∷◌, ◌++◌, length, sym, ap, ◌∙◌, append_assoc, append-nil, le_refl, arith, length-append}
use native.Mathlib.Decide.{le_ind}
use Rattle.rules.specs.declared.Cell.{Cell}
use Rattle.rules.specs.Lists.{count}
use Rattle.rules.specs.Matches.{cell, row_to, matches_to}
use Rattle.rules.proofs.Tests.{by_test}
use Rattle.rules.proofs.ListLaws.{count_append}
use Rattle.rules.proofs.Sweeps.{matched_to}
use Rattle.tally.proofs.MatchedRows.{matches_row}

-- ---- along a row

module _ (hit : Cell → Bool) (i : ℕ) where
  -- more columns count no fewer
  pub row_mono : (f : Cell → Bool) (j m : ℕ) → j ≤ m → count f (row_to hit i j) ≤ count f (row_to hit i m)
  unfolding row_to
  row_mono f j m h =
      le_ind (λ (k : ℕ). count f (row_to hit i j) ≤ count f (row_to hit i k)) (le_refl _)
      (λ k _ e. omega (arith, e, count_append f (row_to hit i k) (cond (hit (cell i (suc k))) (cell i (suc k) ∷ []) []))) m h

  -- at most one match a column
  pub row_short : (j : ℕ) → length (row_to hit i j) ≤ j
  unfolding row_to
  row_short zero = omega arith
  row_short (suc j) =
      by_test (λ (l : List Cell). length (row_to hit i j ++ l) ≤ suc j) (hit (cell i (suc j))) (cell i (suc j) ∷ []) []
      (λ _. omega (arith, length-append (row_to hit i j) (cell i (suc j) ∷ []), row_short j))
      (λ _. omega (arith, length-append (row_to hit i j) [], row_short j))

-- ---- over rows

module _ (hit : Cell → Bool) (columns : ℕ) where
  -- more rows count no fewer
  pub matches_mono : (f : Cell → Bool) (m n : ℕ) → m ≤ n → count f (matches_to hit columns m) ≤ count f (matches_to hit columns n)
  matches_mono f m n h =
      le_ind (λ (k : ℕ). count f (matches_to hit columns m) ≤ count f (matches_to hit columns k)) (le_refl _)
      (λ k _ e. omega (arith, e, matches_row hit columns f k)) n h

  pub matches_short : columns ≤ 16384 → (n : ℕ) → length (matches_to hit columns n) ≤ n * 16384
  unfolding matches_to
  matches_short h zero = omega arith
  matches_short h (suc n) =
      omega (arith, length-append (matches_to hit columns n) (row_to hit (suc n) columns), matches_short h n, row_short hit (suc n) columns)

-- ---- rows 1 to i and row i + 1 up to column j

module _ (b : ℕ) (hit : Cell → Bool) (columns i : ℕ) where
  pub matched_start : matched_to b hit columns i 0 ≡ matches_to hit columns i
  unfolding matched_to
  matched_start = append-nil (matches_to hit columns i)

  -- from one match of the row to the next
  pub matched_step : (p j : ℕ) → row_to hit (suc i) j ≡ row_to hit (suc i) p ++ (cell (suc i) j ∷ [])
      → matched_to b hit columns i j ≡ matched_to b hit columns i p ++ (cell (suc i) j ∷ [])
  unfolding matched_to
  matched_step p j e =
      ap (λ (l : List Cell). matches_to hit columns i ++ l) e ∙ sym (append_assoc (matches_to hit columns i) (row_to hit (suc i) p) (cell (suc i) j ∷ []))

  pub matched_end : (p : ℕ) → row_to hit (suc i) columns ≡ row_to hit (suc i) p → matched_to b hit columns i p ≡ matches_to hit columns (suc i)
  unfolding matched_to
  matched_end p e = ap (λ (l : List Cell). matches_to hit columns i ++ l) (sym e)

  pub matched_count : (f : Cell → Bool) (j : ℕ) → count f (matched_to b hit columns i j) ≡ count f (matches_to hit columns i) + count f (row_to hit (suc i) j)
  unfolding matched_to
  matched_count f j = count_append f (matches_to hit columns i) (row_to hit (suc i) j)

  -- at most 2 ^ 28 matches
  pub matched_short : (j : ℕ) → i < 16384 → columns ≤ 16384 → j ≤ columns → length (matched_to b hit columns i j) ≤ 2 ^ 28
  unfolding matched_to
  matched_short j r k h =
      omega (arith, length-append (matches_to hit columns i) (row_to hit (suc i) j), matches_short hit columns k i, row_short hit (suc i) j)
