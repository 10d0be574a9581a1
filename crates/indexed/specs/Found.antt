-- A slice held against the index of a second sequence. Assumes nothing.
use Rattle.std.specs.Prelude.{◌≡◌, List, ℕ, T}
use Rattle.rules.specs.declared.Settings.{Settings}
use Rattle.requests.specs.Index.{codes_of, indexed}
use Rattle.answers.specs.declared.refusal.Refusal.{Refusal}
use Rattle.answers.specs.declared.refusal.Refusal.TheVariants.{WrongIndex}

-- it begins with the index, and these are the codes of the sequence
pub record Found (c : Settings) (second index codes : List ℕ) : Type 0 where
  pub right : T (indexed c second index)
  pub codes_are : codes ≡ codes_of c.k c.mask second

-- it does not, and 12 is why the job is refused
pub record Wrong (c : Settings) (second index : List ℕ) (e : Refusal) : Type 0 where
  pub wrong : ¬ T (indexed c second index)
  pub because : e ≡ WrongIndex
