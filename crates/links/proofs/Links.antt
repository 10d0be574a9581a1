-- The link total: a match's left extensions are what columns j - b to j count when it comes, since rows before i - b are released and all else seen
-- stands before it. Assumes nothing.
use Rattle.std.proofs.Common.{◌≡◌, ℕ, suc, ◌+◌, ◌-◌, ◌%◌, ◌^◌, ◌<◌, ◌≤◌, Bool, ◌⊎◌, List, [], ◌∷◌, ◌++◌, length, get_or, set, replicate, refl, ap, ◌∙◌, subst, inl, inr, le_trans, mod-eq_of_lt, mul-le-mul, lt_of_not-le, add-one, arith}
use mathlib.Core.List.Memᴰ
use mathlib.Core.List.{Memᴰ}
use Rattle.rules.specs.declared.Cell.{Cell}
use Rattle.rules.specs.Lists.{count, sum_of}
use Rattle.rules.specs.Matches.{cell, row_to, matches_to}
use Rattle.rules.specs.Chains.{left_extension}
use Rattle.rules.specs.Listing.{Before}
use Rattle.rules.specs.Rooms.{pairs}
use Rattle.rules.proofs.Tests.{same_test, tests}
use Rattle.rules.proofs.ListLaws.{count_length}
use Rattle.rules.proofs.LeftExtensions.{extend_facts, facts_extend}
use Rattle.rules.proofs.MatchList.{row_in, matches_in}
use Rattle.rules.proofs.Sweeps.{matched_to}
use Rattle.matches.specs.Walks.{NextMatch, RowWalk, walks_to, walked_to, walked, NextsSafe, WalkSafe}
use Rattle.matches.proofs.Walked.{safe_described}
use Rattle.windows.specs.Windows.{window_sum}
use Rattle.links.specs.Columns.{in_column, ColumnCounts, Released, RowAdded}
use Rattle.tally.proofs.Walks.{walk_step, walk_end}
use Rattle.tally.proofs.Counting.{count_same}
use Rattle.tally.proofs.MatchedRows.{rows_from}
use Rattle.links.proofs.MatchedSoFar.{matched_start, matched_step, matched_end, matched_count, matched_short}
use Rattle.links.proofs.Pairs.{pairs_snoc, pairs_few}
use Rattle.links.proofs.ColumnSums.{counts_more, counts_none, in_columns, sum_counts}

-- ---- a match (i + 1, j) that comes after all of rows 1 to i and of row i + 1 up to column p

-- a cell before it, of no released row, is one of its left extensions where its column is one of j - b to j
left_columns : (b i j : ℕ) (x : Cell) → i - b < x.row → Before x (cell (suc i) j)
    → left_extension b x (cell (suc i) j) ≡ in_columns (j - b) (j + 1 - (j - b)) x
unfolding in_columns
left_columns b i j x h o =
    same_test (left_extension b x (cell (suc i) j)) (in_columns (j - b) (j + 1 - (j - b)) x)
    (λ t. let f = extend_facts b x (cell (suc i) j) t in simp (in_columns, tests) (omega arith))
    (λ t. let f = simp (in_columns, tests) at t in
    facts_extend b x (cell (suc i) j)
    (record {
      row_le = o.row_le;
      row_near = omega arith;
      column_le = omega arith;
      column_near = omega arith;
      moved = lt_of_not-le (λ (z : suc i + j ≤ x.row + x.column). omega (arith, o.column_lt (omega (arith, o.row_le))));
    }))

module _ (hit : Cell → Bool) (columns b i p j : ℕ) (after : p < j) where
  all_before : (y : Cell) → Memᴰ y (matched_to b hit columns i p) → Before y (cell (suc i) j)
  unfolding matched_to
  all_before y m = go (Memᴰ.append_cases (matches_to hit columns i) m)
    where
      go : Memᴰ y (matches_to hit columns i) ⊎ Memᴰ y (row_to hit (suc i) p) → Before y (cell (suc i) j)
      go (inl n) =
          let r = (matches_in hit columns i y n).row_until in
          record { row_le = omega arith; column_lt = λ e. absurd (omega arith) }
      go (inr n) =
          let r = row_in hit (suc i) p y n in
          record { row_le = omega (arith, r.row_is); column_lt = λ e. omega (arith, r.column_until) }

  -- how many left extensions it has
  left_sum : (counts : List ℕ) → ColumnCounts (matches_to hit columns (i - b)) (matched_to b hit columns i p) counts
      → window_sum counts b j ≡ count (λ x. left_extension b x (cell (suc i) j)) (matched_to b hit columns i p)
  unfolding window_sum
  left_sum counts v =
      let left : Cell → Bool = λ x. left_extension b x (cell (suc i) j) in
      let here = in_columns (j - b) (j + 1 - (j - b)) in
      let old = rows_from hit columns here left (i - b) i (omega arith)
      (λ x l g. left_columns b i j x l (record { row_le = omega arith; column_lt = λ e. absurd (omega arith) }))
      (λ x k l t. let f = extend_facts b x (cell (suc i) j) t in omega arith) in
      let row = count_same left here (row_to hit (suc i) p) (λ x m. let r = row_in hit (suc i) p x m in
      left_columns b i j x (omega (arith, r.row_is)) (record { row_le = omega (arith, r.row_is); column_lt = λ e. omega (arith, r.column_until) })) in
      omega (
        arith,
        old,
        row,
        matched_count b hit columns i left p,
        matched_count b hit columns i here p,
        sum_counts (matches_to hit columns (i - b)) (matched_to b hit columns i p) counts v (j - b) (j + 1 - (j - b)),
      )

  -- the link total with it
  pairs_next : row_to hit (suc i) j ≡ row_to hit (suc i) p ++ (cell (suc i) j ∷ [])
      → pairs b (matched_to b hit columns i j) ≡ pairs b (matched_to b hit columns i p)
      + count (λ x. left_extension b x (cell (suc i) j)) (matched_to b hit columns i p)
  pairs_next e = ap (pairs b) (matched_step b hit columns i p j e) ∙ pairs_snoc b (matched_to b hit columns i p) (cell (suc i) j) all_before

-- ---- bounds: 2 ^ 28 matches, and so 2 ^ 56 links

module _ (b : ℕ) (hit : Cell → Bool) (columns i j : ℕ) (few_rows : i < 16384) (few_columns : columns ≤ 16384) (inside : j ≤ columns) where
  count_short : (f : Cell → Bool) → count f (matched_to b hit columns i j) ≤ 2 ^ 28
  count_short f = le_trans (count_length f (matched_to b hit columns i j)) (matched_short b hit columns i j few_rows few_columns inside)

  pairs_short : pairs b (matched_to b hit columns i j) < 2 ^ 64
  pairs_short =
      let few = matched_short b hit columns i j few_rows few_columns inside in
      omega (arith, pairs_few b (matched_to b hit columns i j), mul-le-mul few few)

-- ---- the walk of a row that is counted

-- in column j, with the row's matches up to column `passed` counted and linked
pub record AddAt (hit : Cell → Bool) (i columns b : ℕ) (counts : List ℕ) (total j : ℕ) : Type 0 where
  pub passed : ℕ
  pub inside : passed ≤ columns
  pub next : NextMatch hit (suc i) columns passed j
  pub counted : ColumnCounts (matches_to hit columns (i - b)) (matched_to b hit columns i passed) counts
  pub linked : total ≡ pairs b (matched_to b hit columns i passed)

pub record AddLoop (nexts : List ℕ) (start b : ℕ) (old : List ℕ) (links : ℕ) (counts : List ℕ) (total j : ℕ) : Type 0 where
  pub inside : j ≤ length nexts
  pub walked : (hit : Cell → Bool) (i columns : ℕ) → RowWalk hit (suc i) columns start nexts → i < 16384 → columns ≤ 16384
      → ColumnCounts (matches_to hit columns (i - b)) (matches_to hit columns i) old → links ≡ pairs b (matches_to hit columns i)
      → AddAt hit i columns b counts total j

module _ {nexts : List ℕ} {start b : ℕ} {old : List ℕ} {links : ℕ} where
  pub add_start : start ≤ length nexts → AddLoop nexts start b old links old links start
  add_start h =
      record {
        inside = h;
        walked = λ hit i columns w r k v e.
            record {
              passed = 0;
              inside = omega arith;
              next = w.begins;
              counted = rw (matched_start b hit columns i) v;
              linked = rw (matched_start b hit columns i) e;
            };
      }

  module _ {counts : List ℕ} {total j : ℕ} (v : AddLoop nexts start b old links counts total j) where
    pub add_next : NextsSafe nexts → 1 ≤ j → {n total' : ℕ} → n ≡ window_sum counts b j % 2 ^ 32 → total' ≡ (total + n) % 2 ^ 64
        → AddLoop nexts start b old links (set counts j ((get_or counts j 0 + 1) % 2 ^ 32)) total' (get_or nexts (j - 1) 0)
    add_next safe h {n} {total'} en et =
        record {
          inside = safe.inside (j - 1);
          walked = λ hit i columns w r k u e. turn hit i columns w r k (v.walked hit i columns w r k u e);
        }
      where
        turn : (hit : Cell → Bool) (i columns : ℕ) → RowWalk hit (suc i) columns start nexts → i < 16384 → columns ≤ 16384
            → AddAt hit i columns b counts total j
            → AddAt hit i columns b (set counts j ((get_or counts j 0 + 1) % 2 ^ 32)) total' (get_or nexts (j - 1) 0)
        turn hit i columns w r k s =
            let t = walk_step hit (suc i) columns start nexts w s.passed j s.next h in
            let e = matched_step b hit columns i s.passed j t.adds in
            let more = left_sum hit columns b i s.passed j t.after counts s.counted in
            let pairs-are = pairs_next hit columns b i s.passed j t.after t.adds in
            let few = count_short b hit columns i s.passed r k s.inside (λ x. left_extension b x (cell (suc i) j)) in
            let exact : total + n ≡ pairs b (matched_to b hit columns i j) = omega (arith, s.linked) in
            record {
              passed = j;
              inside = t.inside;
              next = t.next;
              counted =
                  rw e (counts_more (matches_to hit columns (i - b)) (matched_to b hit columns i s.passed) counts s.counted (cell (suc i) j)
                  (omega (arith, v.inside, safe.few_columns))
                  (omega (arith, s.counted.each j, count_short b hit columns i s.passed r k s.inside (in_column j))));
              linked = et ∙ ap (λ (m : ℕ). m % 2 ^ 64) exact ∙ mod-eq_of_lt (pairs_short b hit columns i j r k t.inside);
            }

    pub add_end : j ≡ 0 → RowAdded nexts start b old counts links total
    add_end e = record { exact = λ hit i columns w r k u l. over hit i columns w (v.walked hit i columns w r k u l) }
      where
        over : (hit : Cell → Bool) (i columns : ℕ) → RowWalk hit (suc i) columns start nexts → AddAt hit i columns b counts total j
            → ColumnCounts (matches_to hit columns (i - b)) (matches_to hit columns (suc i)) counts × (total ≡ pairs b (matches_to hit columns (suc i)))
        over hit i columns w s =
            let none = subst (NextMatch hit (suc i) columns s.passed) e s.next in
            let z = matched_end b hit columns i s.passed (walk_end hit (suc i) columns start nexts w s.passed s.inside none) in
            (subst (λ (l : List Cell). ColumnCounts (matches_to hit columns (i - b)) l counts) z s.counted, s.linked ∙ ap (pairs b) z)

-- ---- the rows, one after the other

pub record LinkLoop (firsts nexts : List ℕ) (b : ℕ) (counts : List ℕ) (links p : ℕ) : Type 0 where
  pub inside : p ≤ length firsts
  pub counted : ColumnCounts (walked_to firsts nexts (p - b - 1)) (walked_to firsts nexts p) counts
  pub linked : links ≡ pairs b (walked_to firsts nexts p)

module _ {firsts nexts : List ℕ} {b : ℕ} where
  pub link_start : (n : ℕ) → n ≡ 16385 → LinkLoop firsts nexts b (replicate n 0) 0 0
  unfolding walked_to matches_to pairs sum_of
  link_start n q =
      let e : 0 - b - 1 ≡ 0 = omega arith in
      record { inside = omega arith; counted = rw e (counts_none n q); linked = refl }

  module _ {counts : List ℕ} {links p : ℕ} (v : LinkLoop firsts nexts b counts links p) where
    pub link_next : WalkSafe firsts nexts → p < length firsts → {freed counts' : List ℕ} {links' : ℕ} → Released firsts nexts b p counts freed
        → RowAdded nexts (get_or firsts p 0) b freed counts' links links' → LinkLoop firsts nexts b counts' links' (p + 1)
    unfolding walked_to
    link_next safe h {freed} {counts'} {links'} r a =
        let hit = walks_to firsts nexts in
        let columns = length nexts in
        let d = safe_described safe in
        let e : p - b ≡ suc p - b - 1 = omega arith in
        let q = a.exact hit p columns (d.rows p h) (omega (arith, safe.few_rows)) d.narrow (r.exact hit columns d v.counted) v.linked in
        record {
          inside = omega arith;
          counted = rw add-one (subst (λ (m : ℕ). ColumnCounts (matches_to hit columns m) (matches_to hit columns (suc p)) counts') e q.0);
          linked = rw add-one q.1;
        }

    pub link_end : length firsts ≤ p → links ≡ pairs b (walked firsts nexts)
    unfolding walked
    link_end h =
        let e : p ≡ length firsts = omega (arith, v.inside) in
        v.linked ∙ ap (λ (m : ℕ). pairs b (walked_to firsts nexts m)) e
