-- An answer as the numbers that cross the C boundary. Assumes nothing.
use Rattle.std.specs.Prelude.{List, [], ◌∷◌, ℕ}
use Rattle.rules.specs.declared.Answer.{Answer}

-- "a number, a sequence, a detail, and four tallies: entries listed, M, W, link total"
unfoldable pub answer_numbers : Answer → List ℕ
answer_numbers x =
    x.number ∷ x.sequence ∷ x.detail ∷ x.listed ∷ x.matches ∷ x.widest ∷ x.links ∷ []
