use Rattle.std.proofs.Common.{◌≡◌, ◌<◌, length, sym, ap, ◌∙◌, arith, rules, false, eqb}
use Rattle.std.proofs.lemmas.List.Sorted.{answers_always}
use Rattle.std.proofs.lemmas.Result.{err_from_is_err_and}
use Rattle.turns.specs.States.{LineTaken}
use Rattle.input.proofs.Lines.{Cut, cut_of}
use Rattle.input.proofs.Reading.{reading_start, reading_next, stops, no_end, has_end, safe, went_on, went_wrong}
use Rattle.input.proofs.read_input.Goals as goal

pub loop-text-init : goal.loop-text-init
loop-text-init c =
    let all : c.into_iter-text-iterator.result.rest.now ≡ c.args.input.now =
    ap (λ i. i.rest.now) c.into_iter-text-iterator.ensures.into_iter_gives ∙ c.split_inclusive-text-items.ensures.rest in
    rw all reading_start

pub take_line-requires : goal.take_line-requires
take_line-requires c =
    safe c.requires.in_bounds c.requires.in_bounds_2 c.loop-text.invariant

pub overflow_add-line : goal.overflow_add-line
overflow_add-line c =
    let step = c.in-Some.ensures.steps in
    let some : 0 < length c.loop-text.text-iterator.rest.now = step.2 in
    omega (arith, c.loop-text.invariant.counted, c.loop-text.invariant.within, some)

pub loop-text-preserved : goal.loop-text-preserved
loop-text-preserved c =
    let step = c.in-Some.ensures.steps in
    let feed = step.1.2 (λ b. eqb b 10) (answers_always _ _ _ (λ f a r g h. search rules)) in
    let cut : Cut c.loop-text.text-iterator.rest.now c.in-Some.text.now c.next.new.self.rest.now = cut_of step.0 step.1.1 feed.1 in
    let taken : LineTaken c.in-Some.text.now c.loop-text.s c.loop-text.first c.loop-text.second c.take_line.result c.take_line.new.first c.take_line.new.second = c.take_line.ensures in
    let went = went_on c.take_line.result c.in_ok-s.s c.in_ok-s.ensures.cases in
    reading_next c.requires.in_bounds c.requires.in_bounds_2 c.loop-text.invariant step.2 cut c.take_line.auto.first c.take_line.auto.second (rw went at taken)

pub returns-in_err-s : goal.returns-in_err-s
returns-in_err-s c =
    let p = err_from_is_err_and c.from_residual.result c.from_residual.ensures.1 in
    let step = c.in-Some.ensures.steps in
    let feed = step.1.2 (λ b. eqb b 10) (answers_always _ _ _ (λ f a r g h. search rules)) in
    let cut : Cut c.loop-text.text-iterator.rest.now c.in-Some.text.now c.next.new.self.rest.now = cut_of step.0 step.1.1 feed.1 in
    let taken : LineTaken c.in-Some.text.now c.loop-text.s c.loop-text.first c.loop-text.second c.take_line.result c.take_line.new.first c.take_line.new.second = c.take_line.ensures in
    let went = went_wrong c.take_line.result _ c.loop-text.line _ (λ e h. search rules) c.in_err-s.ensures.cases in
    let all = stops c.requires.in_bounds c.requires.in_bounds_2 c.loop-text.invariant step.2 cut c.take_line.auto.first c.take_line.auto.second (rw went.1 at taken) in
    record { value = rw (p.1, p.2, went.2) all.0; first_after = all.1; second_after = all.2 }

pub returns-then-s-eq3 : goal.returns-then-s-eq3
returns-then-s-eq3 c =
    let all = has_end c.requires.in_bounds c.requires.in_bounds_2 c.loop-text.invariant c.in-None.ensures.steps.0 c.if-s-eq3.true in
    record { value = all.0; first_after = all.1; second_after = all.2 }

pub returns-else-s-eq3 : goal.returns-else-s-eq3
returns-else-s-eq3 c =
    let all = no_end c.requires.in_bounds c.requires.in_bounds_2 c.loop-text.invariant c.in-None.ensures.steps.0 c.if-s-eq3.false in
    record { value = all.0; first_after = all.1; second_after = all.2 }
