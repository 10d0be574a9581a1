-- Sums that wrap at 256: the running sum wraps as the sum of all, and the check byte makes it zero. Assumes nothing.
use Rattle.std.proofs.Common.{◌≡◌, ℕ, ◌+◌, ◌-◌, ◌%◌, ◌<◌, List, [], ◌∷◌, ◌++◌, arith}
use Rattle.std.specs.List.{fold}
use Rattle.lines.specs.Writing.{byte_sum, check_of}

-- the running sum
wrapping : (bytes : List ℕ) (acc : ℕ) → acc < 256 → fold (λ a x. (a + x) % 256) acc bytes ≡ (acc + byte_sum bytes) % 256
unfolding byte_sum
wrapping [] acc h = omega arith
wrapping (b ∷ bs) acc h = omega (arith, wrapping bs ((acc + b) % 256) (omega arith))

pub sum_folded : (bytes : List ℕ) → fold (λ a x. (a + x) % 256) 0 bytes ≡ byte_sum bytes % 256
sum_folded bytes = omega (arith, wrapping bytes 0 (omega arith))

-- the check byte as it is made: zero less the sum of the first two bytes and the rest, which wraps at each step
pub check_made : (kind size : ℕ) (payload : List ℕ) {rest : ℕ} → rest ≡ byte_sum payload % 256
    → (0 + (256 - ((kind + size) % 256 + rest) % 256)) % 256 ≡ check_of (kind ∷ size ∷ payload)
unfolding check_of byte_sum
check_made kind size payload r =
    let e : ((kind + size) % 256 + byte_sum payload % 256) % 256 ≡ (kind + (size + byte_sum payload)) % 256 = omega arith in
    rw (r, e) (omega arith)

pub sum_snoc : (bs : List ℕ) (c : ℕ) → byte_sum (bs ++ (c ∷ [])) ≡ byte_sum bs + c
unfolding byte_sum
sum_snoc [] c = omega arith
sum_snoc (b ∷ bs) c = omega (arith, sum_snoc bs c)

-- with its check byte a frame sums to zero
pub sum_zero : (bs : List ℕ) → byte_sum (bs ++ (check_of bs ∷ [])) % 256 ≡ 0
unfolding check_of
sum_zero bs = omega (arith, sum_snoc bs (check_of bs))

pub check_small : (bs : List ℕ) → check_of bs < 256
unfolding check_of
check_small bs = omega arith
