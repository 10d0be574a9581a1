use Rattle.std.proofs.Common.{arith}
use mathlib.Core.Path.{refl}
use Rattle.ownership.proofs.Owns.{own_none, owned_next}
use Rattle.hashed.proofs.Tables.{is_new, is_old, is_empty, owner_new, owner_old, table_skip}
use Rattle.hashed.proofs.build.Goals as goal
use Rattle.hashed.proofs.build.Goals.{then-c-gt0+in_ok-r+in-Some, then-c-gt0+in_ok-r+in-None, else-c-gt0}

pub put-requires-clause-first_at : goal.put-requires-clause-first_at
put-requires-clause-first_at c =
    is_new c.if-c-gt0.true (rw c.in-None.is at c.in_ok-r.ensures.found) refl

pub loop-n-preserved : goal.loop-n-preserved
loop-n-preserved c =
    let so_far = c.loop-n.invariant in
    let more = c.loop-n-test.true in
    elim c.if-c-gt0.branch [
      | then-c-gt0+in_ok-r+in-Some w ↦
          let found = rw w.in-Some.is at w.in_ok-r.ensures.found in
          let column = rw w.in-Some.is at w.in_ok-r.ensures.column in
          let old = is_old found column.1 (λ e. omega arith) in
          let owner = owner_old more w.if-c-gt0.true found column.1 (λ e. omega arith) in
          rw (w.bucket-is, w.link-is, w.own-is) (table_skip more old so_far.0, owned_next (omega arith) owner so_far.1)
      | then-c-gt0+in_ok-r+in-None w ↦
          let found = rw w.in-None.is at w.in_ok-r.ensures.found in
          let owner = owner_new more (is_new w.if-c-gt0.true found refl) in
          rw (w.bucket-is, w.link-is, w.own-is) (w.put.ensures, owned_next (omega arith) owner so_far.1)
      | else-c-gt0 w ↦
          rw (w.bucket-is, w.link-is, w.own-is) (table_skip more (is_empty w.if-c-gt0.false) so_far.0, owned_next (omega arith) (own_none _ (omega arith)) so_far.1)
    ]
