-- The answer of a refusal meets its contract: it is the definition, at the refusal's numbers. Assumes nothing.
use Rattle.std.proofs.Common.{ℕ, ap}
use Rattle.rules.specs.Answers.{refusal}
use Rattle.answers.proofs.AnswerFromRefusal.from.Goals as goal

pub returns : goal.returns
unfolding refusal
returns c = ap (λ (n : ℕ × ℕ × ℕ). refusal n.0 n.1 n.2) c.numbers-number.ensures
