-- The counts of columns: one match more or less changes one of them, and their sum over columns counts the matches there. Assumes nothing.
use Rattle.std.proofs.Common.{◌≡◌, ℕ, zero, suc, ◌+◌, ◌%◌, ◌^◌, ◌<◌, ◌≤◌, Bool, cond, ◌&&◌, ltb, leb, ◌≢◌, List, [], ◌∷◌, ◌++◌, length, get_or, set, replicate, sym, refl, ap, ◌∙◌, mod-eq_of_lt, arith, length-set, get_or-set_other, get_or-set_same, eq-eqb, ne_eqb}
use lib.ListN.{length-replicate, get_or-replicate, get_or-eq_default}
use Rattle.rules.specs.declared.Cell.{Cell}
use Rattle.rules.specs.Lists.{count}
use Rattle.rules.proofs.Tests.{same_test, tests, Three, below, equal, above, three, T_true, T_false}
use Rattle.rules.proofs.ListLaws.{count_none}
use Rattle.windows.specs.Windows.{sum_from}
use Rattle.links.specs.Columns.{in_column, ColumnCounts}
use Rattle.tally.proofs.Counting.{count_two, count_snoc}

-- ---- one match

module _ (xs : List Cell) (x : Cell) where
  column_here : count (in_column x.column) (xs ++ (x ∷ [])) ≡ count (in_column x.column) xs + 1
  unfolding in_column
  column_here = rw (count_snoc (in_column x.column) xs x, eq-eqb x.column x.column refl)

  column_other : (q : ℕ) → q ≢ x.column → count (in_column q) (xs ++ (x ∷ [])) ≡ count (in_column q) xs
  unfolding in_column
  column_other q n = rw (count_snoc (in_column q) xs x, ne_eqb x.column q (λ e. n (sym e))) (omega arith)

-- one count changed: it must be right, and the others right with it
counts_set : (released seen : List Cell) (counts : List ℕ) (j v : ℕ) → length counts ≡ 16385 → j ≤ 16384
    → ((q : ℕ) → q ≢ j → get_or counts q 0 + count (in_column q) released ≡ count (in_column q) seen)
    → v + count (in_column j) released ≡ count (in_column j) seen → ColumnCounts released seen (set counts j v)
counts_set released seen counts j v l h others here = record { places = length-set counts j v ∙ l; each = λ q. go q (three q j) }
  where
    go : (q : ℕ) → Three q j → get_or (set counts j v) q 0 + count (in_column q) released ≡ count (in_column q) seen
    go q (below g) = rw (get_or-set_other counts j q v 0 (λ z. omega arith)) (others q (λ z. omega arith))
    go q (equal e) = rw (e, get_or-set_same counts j v 0 (omega arith)) here
    go q (above g) = rw (get_or-set_other counts j q v 0 (λ z. omega arith)) (others q (λ z. omega arith))

module _ (released seen : List Cell) (counts : List ℕ) (v : ColumnCounts released seen counts) (x : Cell) (inside : x.column ≤ 16384) where
  -- released: its column counts one less
  pub counts_less : (less : ℕ) → (less + 1) % 2 ^ 32 ≡ get_or counts x.column 0
      → count (in_column x.column) (released ++ (x ∷ [])) ≤ count (in_column x.column) seen
      → less < 2 ^ 32 → ColumnCounts (released ++ (x ∷ [])) seen (set counts x.column less)
  counts_less less e h small =
      counts_set (released ++ (x ∷ [])) seen counts x.column less v.places inside
      (λ q n. rw (column_other released x q n) (v.each q)) (omega (arith, v.each x.column, column_here released x))

  -- seen: its column counts one more
  pub counts_more : get_or counts x.column 0 + 1 < 2 ^ 32
      → ColumnCounts released (seen ++ (x ∷ [])) (set counts x.column ((get_or counts x.column 0 + 1) % 2 ^ 32))
  counts_more h =
      rw (mod-eq_of_lt h)
      (counts_set released (seen ++ (x ∷ [])) counts x.column (get_or counts x.column 0 + 1) v.places inside
      (λ q n. rw (column_other seen x q n) (v.each q)) (omega (arith, v.each x.column, column_here seen x)))

-- before any match
pub counts_none : (n : ℕ) → n ≡ 16385 → ColumnCounts [] [] (replicate n 0)
unfolding count
counts_none n e = record { places = length-replicate {A = ℕ} n 0 ∙ e; each = λ q. go q (three q n) }
  where
    go : (q : ℕ) → Three q n → get_or (replicate n 0) q 0 + 0 ≡ 0
    go q (below l) = ap (λ (k : ℕ). k + 0) (get_or-replicate {A = ℕ} n q 0 0 l)
    go q (equal e) = ap (λ (k : ℕ). k + 0) (get_or-eq_default {A = ℕ} (replicate n 0) 0 (omega (arith, length-replicate {A = ℕ} n 0)))
    go q (above l) = ap (λ (k : ℕ). k + 0) (get_or-eq_default {A = ℕ} (replicate n 0) 0 (omega (arith, length-replicate {A = ℕ} n 0)))

-- ---- sums

-- in columns lo to lo + n - 1
unfoldable pub in_columns : ℕ → ℕ → Cell → Bool
in_columns lo n x = leb lo x.column && ltb x.column (lo + n)

columns_none : (lo : ℕ) (xs : List Cell) → count (in_columns lo 0) xs ≡ 0
unfolding in_columns
columns_none lo xs = count_none (in_columns lo 0) xs (λ x m t. let g = simp (in_columns, tests) at t in omega arith)

columns_next : (lo n : ℕ) (xs : List Cell) → count (in_columns lo (suc n)) xs ≡ count (in_columns lo n) xs + count (in_column (lo + n)) xs
unfolding in_columns in_column
columns_next lo n xs = count_two (in_columns lo (suc n)) (in_columns lo n) (in_column (lo + n)) xs (λ x. go x (three x.column (lo + n)))
  where
    go : (x : Cell) → Three x.column (lo + n)
        → cond {A = ℕ} (in_columns lo (suc n) x) 1 0 ≡ cond {A = ℕ} (in_columns lo n x) 1 0 + cond {A = ℕ} (in_column (lo + n) x) 1 0
    go x (below l) =
        rw (
          same_test (in_columns lo (suc n) x) (in_columns lo n x)
              (λ t. let g = simp (in_columns, tests) at t in simp (in_columns, tests) (omega arith))
              (λ t. let g = simp (in_columns, tests) at t in simp (in_columns, tests) (omega arith)),
          ne_eqb x.column (lo + n) (λ z. omega arith),
        ) (omega arith)
    go x (equal e) =
        rw (
          T_true (in_columns lo (suc n) x) (simp (in_columns, tests) (omega arith)),
          T_false (in_columns lo n x) (λ t. let g = simp (in_columns, tests) at t in omega arith),
          eq-eqb x.column (lo + n) e,
        )
    go x (above l) =
        rw (
          T_false (in_columns lo (suc n) x) (λ t. let g = simp (in_columns, tests) at t in omega arith),
          T_false (in_columns lo n x) (λ t. let g = simp (in_columns, tests) at t in omega arith),
          ne_eqb x.column (lo + n) (λ z. omega arith),
        )

-- a sum over columns counts the matches in them
pub sum_counts : (released seen : List Cell) (counts : List ℕ) → ColumnCounts released seen counts → (lo n : ℕ)
    → sum_from counts lo n + count (in_columns lo n) released ≡ count (in_columns lo n) seen
unfolding sum_from
sum_counts released seen counts v lo zero = omega (arith, columns_none lo released, columns_none lo seen)
sum_counts released seen counts v lo (suc n) =
    omega (arith, sum_counts released seen counts v lo n, v.each (lo + n), columns_next lo n released, columns_next lo n seen)
