use mathlib.Core.Path.{◌≡◌, ap, ◌∙◌}
use Prim.Native.Nat.{ℕ, ◌+◌, ◌-◌}
use native.Mathlib.Omega.{arith}
use Rattle.predecessors.proofs.Steps.{cond_yes, cond_no, cond_none, cond_zero, walked_begin, walked_skip, walked_take, walked_stop, walked_end}
use Rattle.predecessors.proofs.search.Goals as goal
use Rattle.predecessors.proofs.search.Goals.{in-Some, in_default, in_default-via-in-Some+else-low-left, in_default-via-in_default}

pub loop-q-init : goal.loop-q-init
loop-q-init c =
    let lo = c.args.j - c.args.held.b in
    elim c.match-near.branch [
      | in-Some w ↦ rw (w.stop-is, w.in-Some.is)
          (walked_begin (cond_yes lo w.in-Some.left.column (w.in-Some.left.record + 1) 0 (omega arith)) (cond_yes lo w.in-Some.left.column _ _ (omega arith)))
      | in_default w ↦ rw w.stop-is (elim w.in_default.branch [
        | in_default-via-in-Some+else-low-left u ↦ rw u.in-Some.is
            (walked_begin (cond_no lo u.in-Some.left.column (u.in-Some.left.record + 1) 0 (omega arith))
            (w.saturating_sub.ensures ∙ ap (λ (n : ℕ). n - 1) c.saturating_sub-low.ensures ∙ cond_no lo u.in-Some.left.column _ _ (omega arith)))
        | in_default-via-in_default u ↦ rw u.in_default.is
            (walked_begin (cond_zero lo 0) (w.saturating_sub.ensures ∙ ap (λ (n : ℕ). n - 1) c.saturating_sub-low.ensures ∙ cond_none lo))
      ])
    ]

pub loop-q-preserved-else-held-s : goal.loop-q-preserved-else-held-s
loop-q-preserved-else-held-s c =
    let q = c.loop-q.q in
    let e : q - 1 + 1 ≡ q = omega arith in
    (c.loop-q.invariant.0, rw e (walked_take c.loop-q.invariant.1 (omega arith) (omega arith) (omega arith) (c.weigh.result + 1) (rw e at c.if-top-s.true) (rw e at c.weigh.ensures)))

pub loop-q-preserved : goal.loop-q-preserved
loop-q-preserved c =
    let q = c.loop-q.q in
    let e : q - 1 + 1 ≡ q = omega arith in
    (c.loop-q.invariant.0, walked_skip c.loop-q.invariant.1 (omega arith) (rw e at c.if-top-s.false))

pub returns-after-loop-q : goal.returns-after-loop-q
returns-after-loop-q c = walked_end c.loop-q.invariant.1 (omega arith)

pub returns-then-held-s : goal.returns-then-held-s
returns-then-held-s c =
    let q = c.loop-q.q in
    let e : q - 1 + 1 ≡ q = omega arith in
    walked_stop c.loop-q.invariant.1 (omega arith) (omega arith) (omega arith) (c.weigh.result + 1)
    (rw e at c.if-top-s.true) (rw e at c.weigh.ensures) (rw e at c.if-held-s.true)
