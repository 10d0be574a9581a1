-- One result only is allowed: every number of every array is fixed, by a definition or as it was. Assumes nothing.
use mathlib.Core.Path.{◌≡◌, sym, ◌∙◌}
use mathlib.Core.List.{List}
use mathlib.Core.Logic.{⊎_elim}
use Prim.Native.Nat.{ℕ}
use Rattle.rules.specs.declared.Settings.{Settings}
use Rattle.order.proofs.Cases.{eq_or_ne}
use Rattle.nexts.proofs.Unique.{nexts_one}
use Rattle.matches.proofs.Unique.{firsts_one}
use Rattle.walks.specs.Matched.{Columns, BothColumns}

-- any two results of `walks::forward` and of `walks::strand` are equal
pub columns_one : {c : Settings} {coded t firsts₀ nexts₀ f n g m : List ℕ} → Columns c coded t firsts₀ nexts₀ f n → Columns c coded t firsts₀ nexts₀ g m
    → (f ≡ g) × (n ≡ m)
columns_one a b = (firsts_one a.first b.first, nexts_one a.next b.next)

-- any two results of `walks::both` are equal
pub both_one : {c : Settings} {coded t firsts₀ nexts₀ reverse-firsts₀ reverse-nexts₀ f n rf rn g m rg rm : List ℕ} {r s : ℕ}
    → BothColumns c coded t firsts₀ nexts₀ reverse-firsts₀ reverse-nexts₀ f n rf rn r
    → BothColumns c coded t firsts₀ nexts₀ reverse-firsts₀ reverse-nexts₀ g m rg rm s
    → (r ≡ s) × ((f ≡ g) × (n ≡ m)) × ((rf ≡ rg) × (rn ≡ rm))
both_one {c} {rf = rf} {rn = rn} {rg = rg} {rm = rm} a b = (
  a.rows_are ∙ sym b.rows_are,
  columns_one a.forward b.forward,
  ⊎_elim
      (λ (e : c.strand ≡ 0). ((a.unasked e).0 ∙ sym (b.unasked e).0, (a.unasked e).1 ∙ sym (b.unasked e).1))
      (λ (e : c.strand ≡ 0 → ⊥). columns_one (a.reverse e) (b.reverse e))
      (eq_or_ne c.strand 0),
)
