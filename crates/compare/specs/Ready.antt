-- A job that the checks let pass. Assumes nothing.
use Rattle.std.specs.Prelude.{◌≡◌, List, ℕ, Result, Ok, Err, MatchResult}
use Rattle.std.proofs.Common.{Bor}
use Rattle.rules.specs.declared.Settings.{Settings}
use Rattle.rules.specs.Letters.{as_read}
use Rattle.rules.specs.Codes.{codes}
use Rattle.rules.specs.Answers.{checked, refusal}
use Rattle.answers.specs.declared.refusal.Refusal.{Refusal}
use Rattle.answers.specs.Outcomes.{refusal_of}

-- nothing refuses it, and these are the codes of its first sequence as it is read
pub record Ready (c : Settings) (first second coded : List ℕ) : Type 0 where
  pub passed : checked c first second ≡ refusal 0 0 0
  pub coded_are : coded ≡ codes c.k (as_read c.mask first)

-- the codes, or why they are not made
abbrev pub FirstCoded : Settings → List ℕ → List ℕ → Result (Bor (List ℕ)) Refusal → Type 0
FirstCoded c first second r = MatchResult r (λ coded. Ready c first second coded.now) (λ e. refusal_of e ≡ checked c first second)

-- what is lent, by its numbers
abbrev pub lent : Result (Bor (List ℕ)) Refusal → Result (List ℕ) Refusal
lent (Ok coded) = Ok coded.now
lent (Err e) = Err e
