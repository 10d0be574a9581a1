-- What is listed of both strands is fixed: so many entries, and their numbers where the list room holds them. Assumes nothing.
use Rattle.std.proofs.Common.{◌≡◌, ℕ, ◌*◌, ◌≤◌, List, length, take, sym, ◌∙◌}
use Rattle.rules.specs.declared.Settings.{Settings}
use Rattle.strands.specs.Strands.{ListsBoth}

-- any two results of `strands::list_strands` are equal in what they state
pub lists_one : {firsts nexts reverse-firsts reverse-nexts : List ℕ} {letters : ℕ} {c : Settings} {list list' : List ℕ} {n m : ℕ}
    → ListsBoth firsts nexts reverse-firsts reverse-nexts c letters list n → ListsBoth firsts nexts reverse-firsts reverse-nexts c letters list' m
    → (n ≡ m) × (6 * n ≤ length list → 6 * m ≤ length list' → take (6 * n) list ≡ take (6 * m) list')
lists_one a z =
    let x = a.entered in
    let y = z.entered in
    (x.counted ∙ sym y.counted, λ p q. x.entries p ∙ sym (y.entries q))
