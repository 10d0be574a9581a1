-- The codes of a first sequence are one list, and so is why they are not made one refusal. Assumes nothing.
use Rattle.std.proofs.Common.{◌≡◌, ℕ, List, Result, Ok, Err, Bor, sym, ap, ◌∙◌}
use Rattle.rules.specs.declared.Settings.{Settings}
use Rattle.rules.specs.Answers.{checked}
use Rattle.answers.specs.declared.Tallies.{Tallies}
use Rattle.answers.specs.declared.refusal.Refusal.{Refusal}
use Rattle.answers.specs.Outcomes.{refusal_of}
use Rattle.answers.proofs.Unique.{refusal_refuses, one_refusal}
use Rattle.answers.proofs.Exits.{number_0}
use Rattle.refusals.proofs.Checking.{number_passes}
use Rattle.compare.specs.Ready.{FirstCoded, lent}
use Rattle.compare.proofs.Entries.{number_passed}

module _ (c : Settings) (s t : List ℕ) where
  -- any two results of `compare::code_first` are equal, by their numbers
  pub one_first : (q r : Result (Bor (List ℕ)) Refusal) → FirstCoded c s t q → FirstCoded c s t r → lent q ≡ lent r
  one_first (Ok x) (Ok y) a b = ap (λ (l : List ℕ). Ok l) (a.coded_are ∙ sym b.coded_are)
  one_first (Ok x) (Err e) a b = absurd (refusal_refuses e (number_passes (sym b) (number_passed c s t a)))
  one_first (Err d) (Ok y) a b = absurd (refusal_refuses d (number_passes (sym a) (number_passed c s t b)))
  one_first (Err d) (Err e) a b = ap (λ (f : Refusal). Err f) (one_refusal (a ∙ sym b))
