use Rattle.std.proofs.lemmas.Iterator.Adapters.{YieldsList-from_rev_slice}
use Rattle.std.proofs.lemmas.Iterator.Consumers.{YieldsList-turn, YieldsList-from_enumerate}
use Rattle.std.proofs.lemmas.List.{length_push}
use Rattle.turning.proofs.Codes.{code_back, backwards_next}
use Rattle.turning.proofs.reverse_codes.Goals as goal

pub loop-i-preserved : goal.loop-i-preserved
loop-i-preserved c =
    let t = YieldsList-turn (YieldsList-from_enumerate (YieldsList-from_rev_slice c.args.codes.now cc) cc) c.loop-i.yielded _ c.loop-i.yielded_by _ _ _ c.in-Some.is c.next.ensures.steps in
    let here = code_back c.args.codes.now t in
    rw (length_push c.loop-i.yielded (c.in-Some.i, c.in-Some.code), here.1.0, here.1.1) (backwards_next c.loop-i.invariant here.0)
