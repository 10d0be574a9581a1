use mathlib.Core.Path.{◌≡◌, sym, ◌∙◌}
use Prim.Native.Nat.{◌+◌, ◌-◌}
use native.Mathlib.Omega.{arith}
use Rattle.listing.specs.Leaving.{later_in}
use Rattle.listing.proofs.Closing.{some_none, some_next, some_found}
use Rattle.listing.proofs.is_open.Goals as goal

pub loop-q-init : goal.loop-q-init
loop-q-init c =
    let e : c.args.j - c.args.j ≡ 0 = omega arith in
    rw e (some_none (later_in c.args.latest.now c.args.t) c.args.j)

pub returns-then-goes_on : goal.returns-then-goes_on
returns-then-goes_on c =
    let e : c.args.j + (c.loop-q.q - c.args.j) ≡ c.loop-q.q = omega arith in
    sym (some_found (later_in c.args.latest.now c.args.t) c.args.j (c.loop-q.q - c.args.j) c.args.b (omega arith) (rw e (sym c.goes_on.ensures ∙ c.if-goes_on.true)))

pub loop-q-preserved : goal.loop-q-preserved
loop-q-preserved c =
    let e : c.args.j + (c.loop-q.q - c.args.j) ≡ c.loop-q.q = omega arith in
    let f : c.loop-q.q + 1 - c.args.j ≡ c.loop-q.q - c.args.j + 1 = omega arith in
    rw f (some_next (later_in c.args.latest.now c.args.t) c.args.j (c.loop-q.q - c.args.j) c.loop-q.invariant (rw e (sym c.goes_on.ensures ∙ c.if-goes_on.false)))
