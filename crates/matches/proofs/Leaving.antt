-- Which row leaves is fixed. Assumes nothing.
use Rattle.std.proofs.Common.{◌≡◌, refl, ap, sym, ◌∙◌, List, ℕ, ◌<◌, ◌≤◌, arith, MatchOption, Option, Some, None}
use Rattle.std.specs.Option.{option_map}
use Rattle.matches.specs.declared.walk.Columns.{Columns}

-- any two results of `matches::Walk::leaving` agree: none leaves, or a row from the same column on, with the same next columns
pub leaving_one : (b p at : ℕ) (nexts : List ℕ) (r q : Option Columns)
    → MatchOption r (p ≤ b) (λ row. (b < p) × (row.nexts.now ≡ nexts) × (row.at ≡ at))
    → MatchOption q (p ≤ b) (λ row. (b < p) × (row.nexts.now ≡ nexts) × (row.at ≡ at))
    → (option_map (λ row. row.nexts.now) r ≡ option_map (λ row. row.nexts.now) q) × (option_map (λ row. row.at) r ≡ option_map (λ row. row.at) q)
leaving_one b p at nexts None None h g = (refl, refl)
leaving_one b p at nexts None (Some y) h g = absurd (omega (arith, h, g.0))
leaving_one b p at nexts (Some x) None h g = absurd (omega (arith, g, h.0))
leaving_one b p at nexts (Some x) (Some y) h g = (ap Some (h.1 ∙ sym g.1), ap Some (h.2 ∙ sym g.2))
