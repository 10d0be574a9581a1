-- What is found on a strand, from where it was looked up. Assumes nothing.
use mathlib.Core.Path.{◌≡◌, refl, ap}
use mathlib.Core.List.{List}
use Prim.Native.Nat.{ℕ, ◌≤◌}
use native.Mathlib.Omega.{arith}
use borrow.Author.Tests.{eq-eqb, ne_eqb}
use lib.ListN.{length}
use Rattle.rules.specs.declared.Settings.{Settings}
use Rattle.kmers.proofs.Codes.{places_few}
use Rattle.nexts.specs.Nexts.{NextColumns}
use Rattle.matches.specs.Columns.{FirstColumns}
use Rattle.walks.specs.Matched.{reverse_rows}
use Rattle.mirrored.specs.Mirrored.{row_codes, column_codes, FirstFits, Columns, BothColumns}
use Rattle.mirrored.proofs.Rows.{row_count}

pub rows_few : {c : Settings} {first coded : List ℕ} → FirstFits c first coded → length coded ≤ 16384
unfolding row_codes
rows_few {c} {first} ok = omega (arith, ap length ok.coded_are, row_count c 0 first, places_few c.k first ok.some_base ok.short_first)

-- ---- one strand

module _ {c : Settings} {strand : ℕ} {first codes firsts₀ nexts₀ firsts nexts : List ℕ} where
  -- of lists that are a strand's codes
  pub strand_columns : {xs ys : List ℕ} → xs ≡ row_codes c strand first → ys ≡ column_codes strand codes → FirstColumns xs ys c.a firsts₀ firsts → NextColumns ys nexts₀ nexts
      → Columns c strand first codes firsts₀ nexts₀ firsts nexts
  strand_columns e d f m = record { first_columns = rw (e, d) at f; next_columns = rw d at m }

  pub forward_columns : {coded : List ℕ} → FirstFits c first coded → strand ≡ 0 → FirstColumns coded codes c.a firsts₀ firsts → NextColumns codes nexts₀ nexts
      → Columns c strand first codes firsts₀ nexts₀ firsts nexts
  unfolding row_codes column_codes
  forward_columns ok e f m = strand_columns (rw e ok.coded_are) (rw e) f m

-- ---- both

module _ {c : Settings} {first coded codes firsts₀ nexts₀ reverse-firsts₀ reverse-nexts₀ firsts nexts : List ℕ} (m : Columns c 0 first codes firsts₀ nexts₀ firsts nexts) where
  pub forward_alone : c.strand ≡ 0
      → BothColumns c first coded codes firsts₀ nexts₀ reverse-firsts₀ reverse-nexts₀ firsts nexts reverse-firsts₀ reverse-nexts₀ 0
  unfolding reverse_rows
  forward_alone e = record { rows_are = rw (eq-eqb c.strand 0 e); forward = m; reverse = λ n. absurd (n e); unasked = λ _. (refl, refl) }

  pub both_strands : {reverse-firsts reverse-nexts : List ℕ} → (c.strand ≡ 0 → ⊥) → Columns c 1 first codes reverse-firsts₀ reverse-nexts₀ reverse-firsts reverse-nexts
      → BothColumns c first coded codes firsts₀ nexts₀ reverse-firsts₀ reverse-nexts₀ firsts nexts reverse-firsts reverse-nexts (length coded)
  unfolding reverse_rows
  both_strands n r = record { rows_are = rw (ne_eqb c.strand 0 n); forward = m; reverse = λ _. r; unasked = λ e. absurd (n e) }
