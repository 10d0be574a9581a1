-- The link total grows by the left extensions of each match as it comes, since none of an earlier match stands after it. Assumes nothing.
use Rattle.std.proofs.Common.{◌≡◌, ℕ, ◌+◌, ◌*◌, ◌≤◌, List, [], ◌∷◌, ◌++◌, length, arith}
use mathlib.Core.List.{Memᴰ}
use Rattle.rules.specs.declared.Cell.{Cell}
use Rattle.rules.specs.Lists.{count}
use Rattle.rules.specs.Chains.{left_extension}
use Rattle.rules.specs.Listing.{Before}
use Rattle.rules.specs.Rooms.{pairs}
use Rattle.rules.proofs.Tests.{T_false}
use Rattle.rules.proofs.ListLaws.{count_length, sum_of_le}
use Rattle.rules.proofs.LeftExtensions.{not_self, not_after}
use Rattle.tally.proofs.Counting.{count_snoc, sum_snoc, sum_same}

pub pairs_snoc : (b : ℕ) (ms : List Cell) (c : Cell) → ((y : Cell) → Memᴰ y ms → Before y c)
    → pairs b (ms ++ (c ∷ [])) ≡ pairs b ms + count (λ x. left_extension b x c) ms
unfolding pairs
pairs_snoc b ms c h =
    let into : Cell → ℕ = λ y. count (λ x. left_extension b x y) (ms ++ (c ∷ [])) in
    let old : Cell → ℕ = λ y. count (λ x. left_extension b x y) ms in
    let same : (y : Cell) → Memᴰ y ms → into y ≡ old y = λ y m.
    rw (count_snoc (λ x. left_extension b x y) ms c, T_false (left_extension b c y) (not_after b y c (h y m))) (omega arith) in
    let here : into c ≡ old c = rw (count_snoc (λ x. left_extension b x c) ms c, T_false (left_extension b c c) (not_self b c)) (omega arith) in
    omega (arith, sum_snoc into ms c, sum_same into old ms same)

-- at most the matches times the matches
pub pairs_few : (b : ℕ) (ms : List Cell) → pairs b ms ≤ length ms * length ms
unfolding pairs
pairs_few b ms = sum_of_le (λ y. count (λ x. left_extension b x y) ms) (length ms) ms (λ y m. count_length (λ x. left_extension b x y) ms)
