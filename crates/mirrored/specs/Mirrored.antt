-- The codes from which a strand's matches are told where the index of the second sequence, never turned, is given. On the forward strand both sequences'
-- as they stand; on the reverse strand the first sequence is turned instead of the second, and both are read from the last place to the first. That these
-- tell the strand's matches is the mirror law (requests, proofs/Backwards.antt). Assumes nothing.
use Rattle.std.specs.Prelude.{◌≡◌, List, reverse, ℕ, zero, suc, ◌≤◌, length}
use Rattle.rules.specs.declared.Settings.{Settings}
use Rattle.rules.specs.Letters.{reverse_complement}
use Rattle.requests.specs.Index.{codes_of}
use Rattle.nexts.specs.Nexts.{NextColumns}
use Rattle.matches.specs.Columns.{FirstColumns}
use Rattle.walks.specs.Matched.{reverse_rows}

-- of the rows, from the letters of the first sequence
unfoldable pub row_codes : Settings → ℕ → List ℕ → List ℕ
unfolding codes_of reverse_complement
row_codes c zero first = codes_of c.k c.mask first
row_codes c (suc n) first = reverse (codes_of c.k c.mask (reverse_complement first))

-- of the columns, from the codes of the second
unfoldable pub column_codes : ℕ → List ℕ → List ℕ
column_codes zero codes = codes
column_codes (suc n) codes = reverse codes

-- ---- contracts

-- settings and a first sequence that the checks let pass, with its codes; what the codes of the second have to be stands in `index::Lookup`
pub record FirstFits (c : Settings) (first coded : List ℕ) : Type 0 where
  pub some_base : 1 ≤ c.k
  pub few_bases : c.k ≤ 31
  pub short_first : length first ≤ 16384
  pub coded_are : coded ≡ codes_of c.k c.mask first

-- the first column of every row and the next of every column on a strand; behind them all is as it was
pub record Columns (c : Settings) (strand : ℕ) (first codes firsts₀ nexts₀ firsts nexts : List ℕ) : Type 0 where
  pub first_columns : FirstColumns (row_codes c strand first) (column_codes strand codes) c.a firsts₀ firsts
  pub next_columns : NextColumns (column_codes strand codes) nexts₀ nexts

-- on both strands: all rows of the forward strand, and those that the reverse strand has; where it is not asked for, its numbers are as they were
pub record BothColumns (c : Settings) (first coded codes firsts₀ nexts₀ reverse-firsts₀ reverse-nexts₀ firsts nexts reverse-firsts reverse-nexts : List ℕ)
    (rows : ℕ) : Type 0 where
  pub rows_are : rows ≡ reverse_rows c (length coded)
  pub forward : Columns c 0 first codes firsts₀ nexts₀ firsts nexts
  pub reverse : (c.strand ≡ 0 → ⊥) → Columns c 1 first codes reverse-firsts₀ reverse-nexts₀ reverse-firsts reverse-nexts
  pub unasked : c.strand ≡ 0 → (reverse-firsts ≡ reverse-firsts₀) × (reverse-nexts ≡ reverse-nexts₀)
