use mathlib.Core.Path.{refl, ap, ◌∙◌}
use lib.ListN.{length}
use Rattle.std.proofs.lemmas.List.{length_push}
use Rattle.rules.specs.Letters.{complement}
use Rattle.letters.specs.Capitals.{capital_complements}
use Rattle.letters.proofs.Complements.{turning_start, turning_next, turning_end, turn_in, turn_index, turn_letter, turned_all}
use Rattle.std.proofs.lemmas.Iterator.Adapters.{YieldsList-from_rev_slice}
use Rattle.std.proofs.lemmas.Iterator.Consumers.{YieldsList-from_enumerate, YieldsList-turn, YieldsList-end}
use Rattle.letters.proofs.reverse_complement.Goals as goal

pub loop-turned-init : goal.loop-turned-init
loop-turned-init c =
    turning_start _ _ c.requires

pub complement_in-requires : goal.complement_in-requires
unfolding capital_complements
complement_in-requires c =
    refl

pub loop-turned-preserved : goal.loop-turned-preserved
loop-turned-preserved c =
    let done = c.loop-turned.yielded in
    let s = c.args.s.now in
    let road = YieldsList-from_enumerate (YieldsList-from_rev_slice s cc) cc in
    let t = YieldsList-turn road done _ c.loop-turned.yielded_by _ _ (c.in-Some.turned, c.in-Some.byte) c.in-Some.is c.next.ensures.steps in
    rw (length_push done (c.in-Some.turned, c.in-Some.byte), turn_index s (length done) t)
    (turning_next c.loop-turned.invariant (turn_in s (length done) t) (c.complement_in.ensures ∙ ap complement (turn_letter s (length done) t)))

pub returns : goal.returns
returns c =
    let done = c.loop-turned.yielded in
    let s = c.args.s.now in
    let road = YieldsList-from_enumerate (YieldsList-from_rev_slice s cc) cc in
    let all = YieldsList-end road done _ c.loop-turned.yielded_by _ _ c.in-None.is c.next.ensures.steps in
    turning_end c.loop-turned.invariant (turned_all s all.1)
