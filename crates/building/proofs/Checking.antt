-- The checks of building, in order. Assumes nothing.
use mathlib.Core.Path.{◌≡◌, refl}
use mathlib.Core.List.{List, [], ◌∷◌, ◌++◌}
use Prim.Native.Nat.{ℕ, ◌≤◌}
use native.Mathlib.Omega.{arith}
use borrow.Author.Tests.{ltb-false}
use lib.Dec.{ltb}
use lib.ListN.{length}
use Rattle.rules.specs.declared.Answer.{Answer}
use Rattle.rules.specs.Answers.{Line, on, first_of, outside, refusal, length_check, letter_check, given}
use Rattle.requests.specs.Index.{index_checks, checked_index}
use Rattle.refusals.proofs.Checking.{passes, line_refuses, number_of, inside}

-- the lines behind k's, and behind the mask setting's
module _ (mask : ℕ) (second : List ℕ) where
  abbrev pub lines : List (Line Answer)
  lines = length_check 2 (length second) ∷ letter_check 2 second ∷ []

  abbrev pub others : List (Line Answer)
  others = on (outside 0 1 mask) (refusal 10 0 0) ∷ lines

  module _ (k : ℕ) where
    pub all_lines : checked_index k mask second ≡ given ((on (outside 1 31 k) (refusal 1 0 0) ∷ []) ++ others)
    unfolding checked_index index_checks
    all_lines = refl

    module _ (k_passes : refusal 0 0 0 ≡ given (on (outside 1 31 k) (refusal 1 0 0) ∷ [])) where
      pub past_k : checked_index k mask second ≡ given ((on (outside 0 1 mask) (refusal 10 0 0) ∷ []) ++ lines)
      past_k = passes others all_lines (line_refuses (outside 1 31 k) 1 0 0 (λ z. omega arith)) k_passes

      pub past_mask : refusal 0 0 0 ≡ given (on (outside 0 1 mask) (refusal 10 0 0) ∷ []) → checked_index k mask second ≡ given lines
      past_mask = passes lines past_k (line_refuses (outside 0 1 mask) 10 0 0 (λ z. omega arith))

-- a sequence whose index is built
pub index_accepted : (k mask : ℕ) (second : List ℕ) → (checked_index k mask second).number ≡ 0 → (1 ≤ k) × ((k ≤ 31) × (length second ≤ 16384))
unfolding checked_index given first_of index_checks length_check
index_accepted k mask second e =
    let n1 = number_of (outside 1 31 k) 1 0 0 _ e (λ z. omega arith) in
    let n10 = number_of (outside 0 1 mask) 10 0 0 _ n1.1 (λ z. omega arith) in
    let n5 = number_of (ltb 16384 (length second)) 5 2 0 _ n10.1 (λ z. omega arith) in
    let base = inside 1 31 k n1.0 in
    (base.0, (base.1, ltb-false _ _ n5.0))
