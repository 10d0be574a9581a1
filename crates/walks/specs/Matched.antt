-- The matches of a job whose first sequence is given by its codes, and the columns of its rows. The letters of the second are those that are read, in all
-- but `Fits`, which speaks of them as they stand. Assumes nothing.
use Rattle.std.specs.Prelude.{◌≡◌, Bool, cond, List, ℕ, ◌≤◌, eqb, length}
use Rattle.rules.specs.declared.Settings.{Settings}
use Rattle.rules.specs.Places.{places}
use Rattle.rules.specs.declared.Cell.{Cell}
use Rattle.rules.specs.Matches.{matches_to}
use Rattle.rules.specs.Codes.{codes, code_match}
use Rattle.rules.specs.Strands.{on_strand}
use Rattle.nexts.specs.Nexts.{NextColumns}
use Rattle.matches.specs.Columns.{FirstColumns}

-- what is a match, with the codes of the first sequence and the letters of the second
unfoldable pub coded_match : Settings → List ℕ → List ℕ → Cell → Bool
unfolding code_match codes
coded_match c coded second = code_match coded (codes c.k second) c.a

-- those of the first rows, in order
unfoldable pub coded_matches : Settings → List ℕ → List ℕ → ℕ → List Cell
unfolding matches_to coded_match places
coded_matches c coded second rows = matches_to (coded_match c coded second) (places c.k second) rows

-- the rows of the reverse strand: all, and none where the job is on the forward strand alone
unfoldable pub reverse_rows : Settings → ℕ → ℕ
reverse_rows c rows = cond (eqb c.strand 0) 0 rows

-- ---- contracts

-- the settings, the codes of a first sequence and the letters of a second that the checks let pass
pub record Fits (c : Settings) (coded second : List ℕ) : Type 0 where
  pub some_base : 1 ≤ c.k
  pub few_bases : c.k ≤ 31
  pub one_or_both : c.strand ≤ 1
  pub few_rows : length coded ≤ 16384
  pub short_second : length second ≤ 16384

-- the first column of every row and the next of every column; behind them all is as it was
pub record Columns (c : Settings) (coded second firsts₀ nexts₀ firsts nexts : List ℕ) : Type 0 where
  pub first : FirstColumns coded (codes c.k second) c.a firsts₀ firsts
  pub next : NextColumns (codes c.k second) nexts₀ nexts

-- on both strands: all rows of the forward strand, and those that the reverse strand has; where it is not asked for, its numbers are as they were
pub record BothColumns (c : Settings) (coded second firsts₀ nexts₀ reverse-firsts₀ reverse-nexts₀ firsts nexts reverse-firsts reverse-nexts : List ℕ)
    (rows : ℕ) : Type 0 where
  pub rows_are : rows ≡ reverse_rows c (length coded)
  pub forward : Columns c coded second firsts₀ nexts₀ firsts nexts
  pub reverse : (c.strand ≡ 0 → ⊥) → Columns c coded (on_strand 1 second) reverse-firsts₀ reverse-nexts₀ reverse-firsts reverse-nexts
  pub unasked : c.strand ≡ 0 → (reverse-firsts ≡ reverse-firsts₀) × (reverse-nexts ≡ reverse-nexts₀)
