-- A count that has passed a is left alone, and any other grows by one. Assumes nothing.
use native.Mathlib.Omega.{arith}
use Rattle.totals.proofs.Counting.{count_below, count_above}
use Rattle.totals.proofs.count_on.Goals as goal

pub returns-then-v-a : goal.returns-then-v-a
returns-then-v-a c =
    count_below (omega arith)

pub returns-else-v-a : goal.returns-else-v-a
returns-else-v-a c =
    count_above (omega arith)
