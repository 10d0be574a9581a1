-- A row that is released leaves the counts: the walk takes one off the column of each of its matches, which were counted when they were seen. Assumes nothing.
use Rattle.std.proofs.Common.{◌≡◌, ℕ, suc, ◌+◌, ◌-◌, ◌%◌, ◌^◌, ◌<◌, ◌≤◌, Bool, List, length, get_or, set, subst, arith}
use Rattle.rules.specs.declared.Cell.{Cell}
use Rattle.rules.specs.Lists.{count}
use Rattle.rules.specs.Matches.{cell, matches_to}
use Rattle.rules.proofs.Sweeps.{matched_to}
use Rattle.matches.specs.Walks.{NextMatch, RowWalk, NextsSafe}
use Rattle.links.specs.Columns.{in_column, ColumnCounts, RowReleased, Released}
use Rattle.tally.proofs.Walks.{walk_step, walk_end}
use Rattle.tally.proofs.MatchedRows.{matches_row}
use Rattle.links.proofs.MatchedSoFar.{row_mono, matches_mono, matched_start, matched_step, matched_end, matched_count}
use Rattle.links.proofs.ColumnSums.{counts_less}

-- ---- the walk of a row that is released

-- in column j, with the row's matches up to column `passed` released; the gap bound that `matched_to` takes plays no part in it
pub record ReleaseAt (hit : Cell → Bool) (m i columns : ℕ) (counts : List ℕ) (j : ℕ) : Type 0 where
  pub passed : ℕ
  pub inside : passed ≤ columns
  pub next : NextMatch hit (suc m) columns passed j
  pub counted : ColumnCounts (matched_to 0 hit columns m passed) (matches_to hit columns i) counts

pub record ReleaseLoop (nexts : List ℕ) (start : ℕ) (old counts : List ℕ) (j : ℕ) : Type 0 where
  pub inside : j ≤ length nexts
  pub walked : (hit : Cell → Bool) (m i columns : ℕ) → RowWalk hit (suc m) columns start nexts → m < i
      → ColumnCounts (matches_to hit columns m) (matches_to hit columns i) old → ReleaseAt hit m i columns counts j

module _ {nexts : List ℕ} {start : ℕ} {old : List ℕ} where
  pub release_start : start ≤ length nexts → ReleaseLoop nexts start old old start
  release_start h =
      record {
        inside = h;
        walked = λ hit m i columns w l v. record { passed = 0; inside = omega arith; next = w.begins; counted = rw (matched_start 0 hit columns m) v };
      }

  module _ {counts : List ℕ} {j : ℕ} (v : ReleaseLoop nexts start old counts j) where
    pub release_next : NextsSafe nexts → 1 ≤ j → {less : ℕ} → (less + 1) % 2 ^ 32 ≡ get_or counts j 0 → less < 2 ^ 32
        → ReleaseLoop nexts start old (set counts j less) (get_or nexts (j - 1) 0)
    release_next safe h {less} one small =
        record {
          inside = safe.inside (j - 1);
          walked = λ hit m i columns w l u. turn hit m i columns w l (v.walked hit m i columns w l u);
        }
      where
        turn : (hit : Cell → Bool) (m i columns : ℕ) → RowWalk hit (suc m) columns start nexts → m < i → ReleaseAt hit m i columns counts j
            → ReleaseAt hit m i columns (set counts j less) (get_or nexts (j - 1) 0)
        turn hit m i columns w l s =
            let t = walk_step hit (suc m) columns start nexts w s.passed j s.next h in
            let e = matched_step 0 hit columns m s.passed j t.adds in
            let enough : count (in_column j) (matched_to 0 hit columns m j) ≤ count (in_column j) (matches_to hit columns i) =
            omega (
              arith,
              matched_count 0 hit columns m (in_column j) j,
              row_mono hit (suc m) (in_column j) j columns t.inside,
              matches_row hit columns (in_column j) m,
              matches_mono hit columns (in_column j) (suc m) i l,
            ) in
            record {
              passed = j;
              inside = t.inside;
              next = t.next;
              counted =
                  rw e (counts_less (matched_to 0 hit columns m s.passed) (matches_to hit columns i) counts s.counted (cell (suc m) j)
                  (omega (arith, v.inside, safe.few_columns))
                  less one (rw e at enough) small);
            }

    pub release_end : j ≡ 0 → RowReleased nexts start old counts
    release_end e =
        record {
          exact = λ hit m i columns w l u. let s = v.walked hit m i columns w l u in
              let z = walk_end hit (suc m) columns start nexts w s.passed s.inside (subst (NextMatch hit (suc m) columns s.passed) e s.next) in
              subst (λ (r : List Cell). ColumnCounts r (matches_to hit columns i) counts) (matched_end 0 hit columns m s.passed z) s.counted;
        }

-- ---- the row that is released before row p + 1

module _ (firsts nexts : List ℕ) (b p : ℕ) (old : List ℕ) where
  pub released_none : p ≤ b → Released firsts nexts b p old old
  released_none h =
      let e : p - b - 1 ≡ p - b = omega arith in
      record { exact = λ hit columns d v. subst (λ (m : ℕ). ColumnCounts (matches_to hit columns m) (matches_to hit columns p) old) e v }

  pub released_row : (new : List ℕ) → b < p → p < length firsts → RowReleased nexts (get_or firsts (p - b - 1) 0) old new → Released firsts nexts b p old new
  released_row new h g r =
      let m = p - b - 1 in
      let e : suc m ≡ p - b = omega arith in
      record {
        exact = λ hit columns d v.
            subst (λ (k : ℕ). ColumnCounts (matches_to hit columns k) (matches_to hit columns p) new) e
            (r.exact hit m p columns (d.rows m (omega arith)) (omega arith) v);
      }
