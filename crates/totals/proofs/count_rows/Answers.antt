use native.Mathlib.Omega.{arith}
use mathlib.Core.Path.{◌≡◌, refl, sym}
use mathlib.Core.List.{List, ◌++◌}
use Prim.Native.Nat.{ℕ, ◌-◌, ◌<◌}
use lib.Dec.{eqb}
use lib.ListN.{get_or, length, drop, length-append, length-take, take-append-drop}
use Rattle.std.proofs.lemmas.List.{get_or_append_left, set-append_left, set-get_or}
use Rattle.totals.proofs.Striking.{rows_start, row_empty, row_small, row_struck, row_counted, or_cond}
use Rattle.totals.proofs.count_rows.Goals as goal
use Rattle.totals.proofs.count_rows.Goals.{then-e-gt0+then-a-v, then-e-gt0+else-a-v, else-e-gt0}

pub loop-row-init : goal.loop-row-init
loop-row-init c = rw (take-append-drop c.args.n c.args.firsts.now) (rows_start c.requires.upto_2)

pub overflow_add-count : goal.overflow_add-count
overflow_add-count c =
    let rows : List ℕ = c.loop-row.row-items in
    let rest : List ℕ = drop c.args.n c.args.firsts.now in
    let i : ℕ = c.loop-row.row-index in
    let inside : i < length rows = omega arith in
    let read : get_or rows i 0 ≡ get_or (rows ++ rest) i 0 = sym (get_or_append_left rows rest 0 i inside) in
    let more : i < c.args.n = omega (arith, length-take c.args.n c.args.firsts.now) in
    omega (arith, row_small read c.loop-row.invariant c.if-e-gt0.true more c.requires.upto c.requires.n_bound c.requires.upto_2)

pub loop-row-preserved : goal.loop-row-preserved
loop-row-preserved c =
    let rows : List ℕ = c.loop-row.row-items in
    let rest : List ℕ = drop c.args.n c.args.firsts.now in
    let i : ℕ = c.loop-row.row-index in
    let inside : i < length rows = omega arith in
    let read : get_or rows i 0 ≡ get_or (rows ++ rest) i 0 = sym (get_or_append_left rows rest 0 i inside) in
    let more : i < c.args.n = omega (arith, length-take c.args.n c.args.firsts.now) in
    let so_far = c.loop-row.invariant in
    let bound = c.requires.upto in
    let before : ℕ = get_or c.loop-row.count (get_or rows i 0 - 1) 0 in
    elim c.if-e-gt0.branch [
      | then-e-gt0+then-a-v w ↦
          rw (w.row-items-is, w.count-is, w.late-is, ← set-append_left rows rest i 0 inside)
          (row_struck read so_far w.if-e-gt0.true more bound refl (omega (arith, length-append rows rest)) w.if-a-v.true)
      | then-e-gt0+else-a-v w ↦
          rw (w.row-items-is, w.count-is, w.late-is, set-get_or rows i 0)
          (row_counted read so_far w.if-e-gt0.true more bound w.if-a-v.false (or_cond c.loop-row.late (eqb before c.args.a)) refl refl)
      | else-e-gt0 w ↦ rw (w.row-items-is, w.count-is, w.late-is, set-get_or rows i 0) (row_empty read so_far refl w.if-e-gt0.false)
    ]
