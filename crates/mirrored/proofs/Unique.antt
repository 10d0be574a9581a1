-- One result only is allowed: every number of every array is fixed, by a definition or as it was. Assumes nothing.
use mathlib.Core.Path.{◌≡◌, sym, ◌∙◌}
use mathlib.Core.List.{List}
use mathlib.Core.Logic.{⊎_elim}
use Prim.Native.Nat.{ℕ}
use Rattle.rules.specs.declared.Settings.{Settings}
use Rattle.order.proofs.Cases.{eq_or_ne}
use Rattle.nexts.proofs.Unique.{nexts_one}
use Rattle.matches.proofs.Unique.{firsts_one}
use Rattle.mirrored.specs.Mirrored.{Columns, BothColumns}

-- any two results of `mirrored::strand` are equal
pub columns_one : {c : Settings} (strand : ℕ) (first codes : List ℕ) {firsts₀ nexts₀ f n g m : List ℕ} → Columns c strand first codes firsts₀ nexts₀ f n
    → Columns c strand first codes firsts₀ nexts₀ g m → (f ≡ g) × (n ≡ m)
columns_one strand first codes a b = (firsts_one a.first_columns b.first_columns, nexts_one a.next_columns b.next_columns)

-- any two results of `mirrored::both` are equal
pub both_one : {c : Settings} {first coded codes firsts₀ nexts₀ reverse-firsts₀ reverse-nexts₀ f n rf rn g m rg rm : List ℕ} {r s : ℕ}
    → BothColumns c first coded codes firsts₀ nexts₀ reverse-firsts₀ reverse-nexts₀ f n rf rn r
    → BothColumns c first coded codes firsts₀ nexts₀ reverse-firsts₀ reverse-nexts₀ g m rg rm s
    → (r ≡ s) × ((f ≡ g) × (n ≡ m)) × ((rf ≡ rg) × (rn ≡ rm))
both_one {c} {first} {coded} {codes} {rf = rf} {rn = rn} {rg = rg} {rm = rm} a b = (
  a.rows_are ∙ sym b.rows_are,
  columns_one 0 first codes a.forward b.forward,
  ⊎_elim
      (λ (e : c.strand ≡ 0). ((a.unasked e).0 ∙ sym (b.unasked e).0, (a.unasked e).1 ∙ sym (b.unasked e).1))
      (λ (e : c.strand ≡ 0 → ⊥). columns_one 1 first codes (a.reverse e) (b.reverse e))
      (eq_or_ne c.strand 0),
)
