use mathlib.Core.Path.{◌≡◌, sym, ◌∙◌}
use native.Mathlib.Omega.{arith}
use Rattle.std.proofs.Common.{◌<◌, ◌≤◌, take, get_or, length-take, get_or-take}
use Rattle.index.proofs.Passes.{pass_start, pass_next, pass_wrong, pass_end}
use Rattle.index.proofs.begins.Goals as goal

pub loop-t-init : goal.loop-t-init
loop-t-init c =
    pass_start _ _ _

pub loop-t-preserved : goal.loop-t-preserved
loop-t-preserved c =
    let l : c.loop-t.t < c.args.n = omega (arith, length-take c.args.n c.args.index.now) in
    let e : get_or (take c.args.n c.args.index.now) c.loop-t.t 0 ≡ get_or c.args.index.now c.loop-t.t 0 = get_or-take _ _ _ _ l in
    rw e (pass_next c.loop-t.invariant c.requires.keyed l (rw e at (sym c.goes_on.ensures ∙ c.if-not-goes_on.false)))

pub returns-then-not-goes_on : goal.returns-then-not-goes_on
returns-then-not-goes_on c =
    let l : c.loop-t.t < c.args.n = omega (arith, length-take c.args.n c.args.index.now) in
    let e : get_or (take c.args.n c.args.index.now) c.loop-t.t 0 ≡ get_or c.args.index.now c.loop-t.t 0 = get_or-take _ _ _ _ l in
    pass_wrong c.loop-t.invariant c.requires.keyed l c.requires.n_value (rw e at (sym c.goes_on.ensures ∙ c.if-not-goes_on.true))

pub returns : goal.returns
returns c =
    let d : c.args.n ≤ c.loop-t.t = omega (arith, length-take c.args.n c.args.index.now) in
    pass_end c.loop-t.invariant d c.requires.n_value c.requires.n_in_bounds
