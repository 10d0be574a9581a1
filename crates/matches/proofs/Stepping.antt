-- The columns that a row's iterator gives are those of the row. Assumes nothing.
use Rattle.std.proofs.Common.{◌≡◌, ℕ, List, length, Option, None, Some, ◌∷◌, ap, ◌∙◌}
use Rattle.std.proofs.lemmas.Iterator.{YieldsList}
use Rattle.std.proofs.lemmas.Iterator.Consumers.{YieldsList-from_shown}
use Rattle.matches.specs.declared.walk.Columns.{Columns}
use Rattle.matches.specs.Walks.{row_from, Steps}
use Rattle.matches.proofs.Walked.{row_next, row_none}

-- what the iterator's `next_gives` says
abbrev pub column_steps : Columns → Option ℕ → Columns → Type 0
column_steps s r t = (t.nexts.now ≡ s.nexts.now) × Steps s.nexts.now s.at r t.at

abbrev row : Columns → List ℕ
row s = row_from s.nexts.now s.at

row_ends : (s t : Columns) → column_steps s None t → length (row s) ≡ 0
row_ends s t e = ap (λ (x : ℕ). length (row_from s.nexts.now x)) e.1.0 ∙ ap length (row_none s.nexts.now)

row_goes : (s : Columns) (x : ℕ) (t : Columns) → column_steps s (Some x) t → row s ≡ x ∷ row t
row_goes s x t e = rw (e.0, e.1.0, e.1.2) (row_next s.safe s.at e.1.1 s.inside)

pub columns_listed : (s : Columns) → YieldsList column_steps (λ x. x) s (row_from s.nexts.now s.at)
columns_listed s = YieldsList-from_shown column_steps (λ x. x) row row_ends row_goes s
