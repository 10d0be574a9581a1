use Prim.Native.Nat.{ℕ, ◌+◌, ◌^◌, ◌≤◌, ◌<◌}
use mathlib.Core.Path.{◌≡◌}
use mathlib.Core.List.{List}
use native.Mathlib.Omega.{arith}
use lib.ListN.{length}
use Rattle.matches.specs.Walks.{row_from, WalkSafe}
use Rattle.matches.proofs.Walked.{row_few, walked_few}
use Rattle.tally.proofs.Runs.{RunLoop, row_is, run_start, run_next, run_end}
use Rattle.tally.proofs.count_matches.Goals as goal

-- no sum of the matches so far and one row's comes near a word
rows_fit : {firsts nexts : List ℕ} {b matches run widest p : ℕ} (size start : ℕ) → WalkSafe firsts nexts → RunLoop firsts nexts b matches run widest p
    → size ≡ length (row_from nexts start) → (matches + size < 2 ^ 32) × (run + size < 2 ^ 32)
rows_fit {nexts = nexts} {p = p} size start safe v e =
    let most : size ≤ 16384 = omega (arith, e, row_few nexts start, safe.nexts_safe.few_columns) in
    let all = walked_few safe p in
    let few = safe.few_rows in
    (omega (arith, v.counted, v.inside), omega (arith, v.running, v.inside))

pub loop-p-init : goal.loop-p-init
loop-p-init c =
    run_start c.args.walk.safe

pub overflow_add-matches : goal.overflow_add-matches
overflow_add-matches c =
    omega (arith, rows_fit _ _ c.args.walk.safe c.loop-p.invariant (row_is c.row.ensures.nexts c.row.ensures.begins c.row_size-size.ensures))

pub overflow_add-run : goal.overflow_add-run
overflow_add-run c =
    omega (arith, rows_fit _ _ c.args.walk.safe c.loop-p.invariant (row_is c.row.ensures.nexts c.row.ensures.begins c.row_size-size.ensures))

pub loop-p-preserved : goal.loop-p-preserved
loop-p-preserved c =
    run_next c.args.walk.safe c.loop-p.invariant _ (omega arith) (row_is c.row.ensures.nexts c.row.ensures.begins c.row_size-size.ensures) c.leaving.ensures
    c.saturating_sub-run.ensures c.max-widest.ensures

pub returns : goal.returns
returns c =
    run_end c.args.walk.safe c.loop-p.invariant (omega arith)
