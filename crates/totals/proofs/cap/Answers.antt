use native.Mathlib.Omega.{arith}
use mathlib.Core.Path.{◌≡◌, sym}
use mathlib.Core.List.{List, ◌++◌}
use Prim.Native.Nat.{ℕ, ◌<◌}
use lib.ListN.{get_or, length, drop, length-append}
use Rattle.std.proofs.lemmas.List.{get_or_append_left, set-append_left, set-get_or}
use Rattle.totals.proofs.Striking.{capped_none, capped_used, capped_unused}
use Rattle.totals.proofs.cap.Goals as goal
use Rattle.totals.proofs.cap.Goals.{then-e-gt0+then-a-count, else-e-gt0, else-e-gt0-via-then-e-gt0+else-a-count, else-e-gt0-via-else-e-gt0}

pub loop-row-preserved : goal.loop-row-preserved
loop-row-preserved c =
    let rows : List ℕ = c.loop-row.row-items in
    let rest : List ℕ = drop c.args.n c.args.firsts.now in
    let i : ℕ = c.loop-row.row-index in
    let inside : i < length rows = omega arith in
    let read : get_or rows i 0 ≡ get_or (rows ++ rest) i 0 = sym (get_or_append_left rows rest 0 i inside) in
    let so_far = c.loop-row.invariant in
    elim c.if-e-gt0.branch [
      | then-e-gt0+then-a-count w ↦
          rw (w.row-items-is, ← set-append_left rows rest i 0 inside) (capped_unused read so_far (omega (arith, length-append rows rest)) w.if-a-count.true)
      | else-e-gt0 w ↦ rw w.row-items-is (elim w.else-e-gt0.branch [
        | else-e-gt0-via-then-e-gt0+else-a-count w' ↦ rw (w'.row-items-is, set-get_or rows i 0) (capped_used read so_far w'.if-a-count.false)
        | else-e-gt0-via-else-e-gt0 w' ↦ rw (w'.row-items-is, set-get_or rows i 0) (capped_none read so_far w'.if-e-gt0.false)
      ])
    ]
