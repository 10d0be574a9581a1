use native.Mathlib.Omega.{arith}
use Rattle.std.proofs.Common.{length, take, length-take, sym}
use Rattle.std.proofs.lemmas.Slice.Zip.{zip_turn, zip_end}
use Rattle.std.proofs.lemmas.List.{length-take-le, length_push}
use Rattle.requests.proofs.IndexPass.{indexed_long}
use Rattle.columns.proofs.Runs.{Turn, turn_of, column, owning_start, owning_next, owning_end}
use Rattle.columns.proofs.own_columns.Goals as goal

pub slice_bounds-iter-end : goal.slice_bounds-iter-end
slice_bounds-iter-end c =
    let long = indexed_long c.args.lookup.codes.now c.args.lookup.index.now c.args.lookup.indexed.begins in
    sym (length-take-le c.args.lookup.places c.args.lookup.index.now (omega (arith, c.args.lookup.counted)))

pub loop-place-init : goal.loop-place-init
loop-place-init c = owning_start c.args.lookup.indexed

pub overflow_sub-own : goal.overflow_sub-own
overflow_sub-own c =
    let t : Turn c.args.lookup.index.now c.args.lookup.keys.now c.args.lookup.places (length c.loop-place.yielded) c.in-Some.place.now c.in-Some.key.now = turn_of (zip_turn (take c.args.lookup.places c.args.lookup.index.now) c.args.lookup.keys.now c.loop-place.yielded c.into_iter-place-iterator.result c.loop-place.place-iterator c.next.new.self c.next.result (cc) (cc) c.loop-place.yielded_by _ c.in-Some.is c.next.ensures.steps) in
    let here = column c.args.lookup.indexed (length c.loop-place.yielded) (omega (arith, t.upto, c.args.lookup.counted)) in
    omega (arith, t.place_is, here.some)

pub bounds-own-place : goal.bounds-own-place
bounds-own-place c =
    let t : Turn c.args.lookup.index.now c.args.lookup.keys.now c.args.lookup.places (length c.loop-place.yielded) c.in-Some.place.now c.in-Some.key.now = turn_of (zip_turn (take c.args.lookup.places c.args.lookup.index.now) c.args.lookup.keys.now c.loop-place.yielded c.into_iter-place-iterator.result c.loop-place.place-iterator c.next.new.self c.next.result (cc) (cc) c.loop-place.yielded_by _ c.in-Some.is c.next.ensures.steps) in
    let here = column c.args.lookup.indexed (length c.loop-place.yielded) (omega (arith, t.upto, c.args.lookup.counted)) in
    omega (arith, t.place_is, here.some, here.within, c.requires.room, c.loop-place.invariant.long)

pub loop-place-preserved : goal.loop-place-preserved
loop-place-preserved c =
    let t : Turn c.args.lookup.index.now c.args.lookup.keys.now c.args.lookup.places (length c.loop-place.yielded) c.in-Some.place.now c.in-Some.key.now = turn_of (zip_turn (take c.args.lookup.places c.args.lookup.index.now) c.args.lookup.keys.now c.loop-place.yielded c.into_iter-place-iterator.result c.loop-place.place-iterator c.next.new.self c.next.result (cc) (cc) c.loop-place.yielded_by _ c.in-Some.is c.next.ensures.steps) in
    let here = column c.args.lookup.indexed (length c.loop-place.yielded) (omega (arith, t.upto, c.args.lookup.counted)) in
    rw (length_push c.loop-place.yielded (c.in-Some.place, c.in-Some.key), t.key_is)
    (owning_next c.args.lookup.indexed c.loop-place.invariant (omega (arith, t.upto, c.args.lookup.counted)) (omega (arith, t.place_is, here.some))
    (omega (arith, t.place_is, here.some, here.within, c.requires.room, c.loop-place.invariant.long)) (rw (t.key_is, t.place_is) at c.run_owner-owner.ensures))

pub returns : goal.returns
returns c =
    let e = zip_end (take c.args.lookup.places c.args.lookup.index.now) c.args.lookup.keys.now c.loop-place.yielded c.into_iter-place-iterator.result c.loop-place.place-iterator c.next.new.self c.next.result (cc) (cc) c.loop-place.yielded_by c.in-None.is c.next.ensures.steps in
    let long = indexed_long c.args.lookup.codes.now c.args.lookup.index.now c.args.lookup.indexed.begins in
    owning_end c.args.lookup.indexed c.loop-place.invariant (omega (arith, e, length-take c.args.lookup.places c.args.lookup.index.now, c.args.lookup.counted, c.args.lookup.indexed.long)) c.requires.zeros
