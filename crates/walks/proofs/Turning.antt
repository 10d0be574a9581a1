-- The reverse strand is matched as the forward one is: the turned sequence is as long, and so is one as it is read, so they fit where the other does.
-- Assumes nothing.
use mathlib.Core.Path.{◌≡◌, refl, ap, subst⁻¹, ◌∙◌}
use mathlib.Core.List.{List, ◌++◌}
use Prim.Native.Nat.{ℕ, zero, suc, ◌≤◌}
use native.Mathlib.Omega.{arith}
use borrow.Author.Tests.{eq-eqb, ne_eqb}
use lib.ListN.{length, take}
use lib.Seq.{take_at}
use Rattle.rules.specs.declared.Settings.{Settings}
use Rattle.rules.specs.Letters.{reverse_complement, as_read}
use Rattle.rules.specs.Strands.{on_strand}
use Rattle.rules.proofs.Strands.{turned_length}
use Rattle.rules.proofs.Masks.{read_length}
use Rattle.walks.specs.Matched.{reverse_rows, Fits, Columns, BothColumns}

-- ---- the turned sequence, and a sequence as it is read

-- letters of the same number fit where the others do
fits_as_long : {c : Settings} {coded t u : List ℕ} → length u ≡ length t → Fits c coded t → Fits c coded u
fits_as_long e ok =
    record {
      some_base = ok.some_base;
      few_bases = ok.few_bases;
      one_or_both = ok.one_or_both;
      few_rows = ok.few_rows;
      short_second = (let h = ok.short_second in omega arith);
    }

pub turned_fits : {c : Settings} {coded t : List ℕ} → Fits c coded t → Fits c coded (reverse_complement t)
turned_fits {t = t} = fits_as_long (turned_length t)

pub read_fits : {c : Settings} {coded t : List ℕ} (mask : ℕ) → Fits c coded t → Fits c coded (as_read mask t)
read_fits {t = t} mask = fits_as_long (read_length mask t)

-- and so on any strand
pub strand_fits : {c : Settings} {coded t : List ℕ} (strand : ℕ) → Fits c coded t → Fits c coded (on_strand strand t)
unfolding on_strand
strand_fits zero ok = ok
strand_fits (suc n) ok = turned_fits ok

-- what was written in front is the turned sequence
pub turned_front : (t rest out : List ℕ) → out ≡ reverse_complement t ++ rest → take (length t) out ≡ reverse_complement t
turned_front t rest out e = ap (take (length t)) e ∙ take_at (reverse_complement t) rest (length t) (turned_length t)

-- ---- one strand, and both

module _ {c : Settings} {coded firsts₀ nexts₀ firsts nexts : List ℕ} (t : List ℕ) where
  -- the strand that is named
  pub forward_strand : c.strand ≡ 0 → Columns c coded t firsts₀ nexts₀ firsts nexts → Columns c coded (on_strand c.strand t) firsts₀ nexts₀ firsts nexts
  unfolding on_strand
  forward_strand e m = subst⁻¹ (λ (n : ℕ). Columns c coded (on_strand n t) firsts₀ nexts₀ firsts nexts) e m

  pub reverse_strand : c.strand ≤ 1 → (c.strand ≡ 0 → ⊥) → Columns c coded (on_strand 1 t) firsts₀ nexts₀ firsts nexts
      → Columns c coded (on_strand c.strand t) firsts₀ nexts₀ firsts nexts
  reverse_strand l n m =
      let e : c.strand ≡ 1 = omega arith in
      subst⁻¹ (λ (q : ℕ). Columns c coded (on_strand q t) firsts₀ nexts₀ firsts nexts) e m

module _ {c : Settings} {coded t firsts₀ nexts₀ reverse-firsts₀ reverse-nexts₀ firsts nexts : List ℕ} (m : Columns c coded t firsts₀ nexts₀ firsts nexts) where
  pub forward_alone : c.strand ≡ 0
      → BothColumns c coded t firsts₀ nexts₀ reverse-firsts₀ reverse-nexts₀ firsts nexts reverse-firsts₀ reverse-nexts₀ 0
  unfolding reverse_rows
  forward_alone e = record { rows_are = rw (eq-eqb c.strand 0 e); forward = m; reverse = λ n. absurd (n e); unasked = λ _. (refl, refl) }

  pub both_strands : {reverse-firsts reverse-nexts : List ℕ} → (c.strand ≡ 0 → ⊥)
      → Columns c coded (on_strand 1 t) reverse-firsts₀ reverse-nexts₀ reverse-firsts reverse-nexts
      → BothColumns c coded t firsts₀ nexts₀ reverse-firsts₀ reverse-nexts₀ firsts nexts reverse-firsts reverse-nexts (length coded)
  unfolding reverse_rows
  both_strands n r = record { rows_are = rw (ne_eqb c.strand 0 n); forward = m; reverse = λ _. r; unasked = λ e. absurd (n e) }
