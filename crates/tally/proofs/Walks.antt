-- A walk along a row's matches: the columns between two of them add nothing, so a step adds one match and the end has the whole row. Assumes nothing.
use mathlib.Core.Path.{◌≡◌, refl, ◌∙◌}
use mathlib.Core.Bool.{Bool, true, false}
use mathlib.Core.List.{List, [], ◌∷◌, ◌++◌, append-nil}
use Prim.Native.Nat.{ℕ, zero, suc, ◌-◌, ◌≤◌, ◌<◌}
use native.Mathlib.Decide.{le_ind}
use native.Mathlib.Omega.{arith}
use lib.ListN.{get_or}
use Rattle.rules.specs.declared.Cell.{Cell}
use Rattle.rules.specs.Matches.{cell, row_to}
use Rattle.matches.specs.Walks.{NextMatch, none_left, next_is, RowWalk}

module _ (hit : Cell → Bool) (i : ℕ) where
  row_miss : (j : ℕ) → hit (cell i (suc j)) ≡ false → row_to hit i (suc j) ≡ row_to hit i j
  unfolding row_to
  row_miss j e = rw e (append-nil (row_to hit i j))

  row_hit : (j : ℕ) → hit (cell i (suc j)) ≡ true → row_to hit i (suc j) ≡ row_to hit i j ++ (cell i (suc j) ∷ [])
  unfolding row_to
  row_hit j e = rw e

  row_skip : (j m : ℕ) → j ≤ m → ((q : ℕ) → j < q → q ≤ m → hit (cell i q) ≡ false) → row_to hit i m ≡ row_to hit i j
  row_skip j m h none =
      le_ind (λ (n : ℕ). n ≤ m → row_to hit i n ≡ row_to hit i j) (λ _. refl)
      (λ n g ih l. row_miss n (none (suc n) (omega arith) l) ∙ ih (omega arith)) m h (omega arith)

-- a step from column p to column j, the next match, and what comes after it
pub record Step (hit : Cell → Bool) (i columns p j : ℕ) (nexts : List ℕ) : Type 0 where
  pub after : p < j
  pub inside : j ≤ columns
  pub adds : row_to hit i j ≡ row_to hit i p ++ (cell i j ∷ [])
  pub next : NextMatch hit i columns j (get_or nexts (j - 1) 0)

module _ (hit : Cell → Bool) (i columns start : ℕ) (nexts : List ℕ) (w : RowWalk hit i columns start nexts) where
  pub walk_step : (p j : ℕ) → NextMatch hit i columns p j → 1 ≤ j → Step hit i columns p j nexts
  walk_step p zero n h = absurd (omega arith)
  walk_step p (suc j) (none_left e f) h = absurd (omega arith)
  walk_step p (suc j) (next_is l g t f) h =
      let back : suc j - 1 ≡ j = omega arith in
      record {
        after = l;
        inside = g;
        adds = rw (row_hit hit i j t, row_skip hit i p j (omega arith) (λ q a b. f q a (omega arith)));
        next = rw back (w.follows j t);
      }

  -- where a walk ends, the row has no more
  pub walk_end : (p : ℕ) → p ≤ columns → NextMatch hit i columns p 0 → row_to hit i columns ≡ row_to hit i p
  walk_end p h (none_left e f) = row_skip hit i p columns h f
  walk_end p h (next_is l g t f) = absurd (omega arith)
