-- What bad_place means, in words of letters and places. Assumes nothing.
use Rattle.std.specs.Prelude.{◌≡◌, List, ℕ, zero, suc, ◌<◌, length, get_or, Option, Some, None}
use Rattle.rules.specs.Letters.{code_of}

-- every letter has a code
abbrev pub AllCoded : List ℕ → Type 0
AllCoded s = (i : ℕ) → i < length s → 0 < code_of (get_or s i 0)

-- the first place, counted from 1, whose letter has no code: `before` letters stand before it, and each of them has one
pub record FirstBad (s : List ℕ) (place : ℕ) : Type 0 where
  pub before : ℕ
  pub here : place ≡ suc before
  pub inside : before < length s
  pub bad : code_of (get_or s before 0) ≡ 0
  pub good : (i : ℕ) → i < before → 0 < code_of (get_or s i 0)

-- a place where there is one, which 0 is not
unfoldable pub some_place : ℕ → Option ℕ
some_place zero = None
some_place (suc before) = Some (suc before)
