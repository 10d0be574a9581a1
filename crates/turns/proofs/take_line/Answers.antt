-- Each way out is what is wrong with the line, or its kind. Assumes nothing.
use Rattle.std.proofs.Common.{◌≡◌, ℕ, ◌+◌, ◌-◌, ◌≤◌, List, length, take, drop, replicate, sym, ap, ◌∙◌, arith, length-take, length-drop, eqb-true}
use Rattle.std.proofs.lemmas.Bool.{eqb-false}
use Rattle.std.proofs.lemmas.Result.{err_from_is_err_and}
use Rattle.lines.specs.Errors.{number_of}
use Rattle.kinds.specs.Kind.{kind_byte}
use Rattle.turns.proofs.Numbering.{may_come, may_not_come, no_kind, after_job, after_first, after_second, after_end}
use Rattle.turns.proofs.Taking.{line_refused, turn_refused, inside, payload_is, job_taken, job_refused, first_taken, first_refused, second_taken, second_refused, end_taken, end_refused}
use Rattle.turns.proofs.take_line.Goals as goal

-- a payload of no bytes has size 0
no_bytes : (size : ℕ) (bytes : List ℕ) → size + 2 ≤ length bytes → length (take (size + 2 - 2) (drop 2 bytes)) ≡ 0 → size ≡ 0
no_bytes size bytes h e = omega (arith, length-take (size + 2 - 2) (drop 2 bytes), length-drop 2 bytes)

some_bytes : (size : ℕ) (bytes : List ℕ) → (length (take (size + 2 - 2) (drop 2 bytes)) ≡ 0 → ⊥) → size ≡ 0 → ⊥
some_bytes size bytes h e = h (omega (arith, length-take (size + 2 - 2) (drop 2 bytes)))

pub returns-in_err-frame : goal.returns-in_err-frame
returns-in_err-frame c =
    let p = err_from_is_err_and c.from_residual.result c.from_residual.ensures.1 in
    rw (p.1, p.2) (line_refused _ c.args.s _ _ c.requires c.in_err-frame.ensures.value)

pub returns-in_err-kind : goal.returns-in_err-kind
returns-in_err-kind c =
    let p = err_from_is_err_and c.from_residual-in_err-kind.result c.from_residual-in_err-kind.ensures.1 in
    let k = c.in_err-kind.ensures in
    rw (p.1, p.2) (turn_refused _ c.args.s _ _ c.requires c.in_ok-frame.ensures.value (ap number_of k.0 ∙ no_kind _ _ k.1))

pub returns-in_err-next : goal.returns-in_err-next
returns-in_err-next c =
    let p = err_from_is_err_and c.from_residual-in_err-next.result c.from_residual-in_err-next.ensures.1 in
    rw (p.1, p.2) (turn_refused _ c.args.s _ _ c.requires c.in_ok-frame.ensures.value (may_not_come c.args.s.turn c.of.ensures _ c.in_ok-kind.ensures c.in_err-next.ensures))

pub overflow_add-payload : goal.overflow_add-payload
overflow_add-payload c =
    let read = c.in_ok-frame.ensures.value in
    let right = may_come c.args.s.turn c.of.ensures c.in_ok-kind.kind c.in_ok-kind.ensures c.in_ok-next.ensures in
    omega (arith, inside _ c.args.s _ _ c.requires read right)

pub slice_bounds-payload-end : goal.slice_bounds-payload-end
slice_bounds-payload-end c =
    let read = c.in_ok-frame.ensures.value in
    let right = may_come c.args.s.turn c.of.ensures c.in_ok-kind.kind c.in_ok-kind.ensures c.in_ok-next.ensures in
    omega (arith, inside _ c.args.s _ _ c.requires read right, c.read_line.auto)

pub returns-in_err-settings-in-Job : goal.returns-in_err-settings-in-Job
returns-in_err-settings-in-Job c =
    let read = c.in_ok-frame.ensures.value in
    let right = may_come c.args.s.turn c.of.ensures c.in_ok-kind.kind c.in_ok-kind.ensures c.in_ok-next.ensures in
    let byte = sym c.in_ok-kind.ensures ∙ ap kind_byte c.in-Job.is in
    let p = err_from_is_err_and c.from_residual-in_err-settings-in-Job.result c.from_residual-in_err-settings-in-Job.ensures.1 in
    rw (p.1, p.2) (job_refused _ c.args.s _ _ c.requires read right byte c.in_err-settings-in-Job.ensures.number)

pub returns-in_ok-settings-in-Job : goal.returns-in_ok-settings-in-Job
returns-in_ok-settings-in-Job c =
    let read = c.in_ok-frame.ensures.value in
    let right = may_come c.args.s.turn c.of.ensures c.in_ok-kind.kind c.in_ok-kind.ensures c.in_ok-next.ensures in
    let byte = sym c.in_ok-kind.ensures ∙ ap kind_byte c.in-Job.is in
    job_taken _ c.args.s _ _ c.requires read right (replicate 67 0) _ (omega arith) c.read_line.ensures.bytes_after byte (c.number-turn.ensures ∙ after_job c.of.result _ c.in-Job.is c.in_ok-next.ensures) (sym c.in_ok-settings-in-Job.ensures.number) c.in_ok-settings-in-Job.ensures.value

pub returns-in_err-count-in-FirstPiece : goal.returns-in_err-count-in-FirstPiece
returns-in_err-count-in-FirstPiece c =
    let read = c.in_ok-frame.ensures.value in
    let right = may_come c.args.s.turn c.of.ensures c.in_ok-kind.kind c.in_ok-kind.ensures c.in_ok-next.ensures in
    let byte = sym c.in_ok-kind.ensures ∙ ap kind_byte c.in-FirstPiece.is in
    let p = err_from_is_err_and c.from_residual-in_err-count-in-FirstPiece.result c.from_residual-in_err-count-in-FirstPiece.ensures.1 in
    rw (p.1, p.2) (first_refused _ c.args.s _ _ c.requires read right byte (payload_is _ c.args.s _ _ c.requires read right (replicate 67 0) _ (omega arith) c.read_line.ensures.bytes_after) c.in_err-count-in-FirstPiece.ensures.value c.in_err-count-in-FirstPiece.ensures.letters_after)

pub returns-in_ok-count-in-FirstPiece : goal.returns-in_ok-count-in-FirstPiece
returns-in_ok-count-in-FirstPiece c =
    let read = c.in_ok-frame.ensures.value in
    let right = may_come c.args.s.turn c.of.ensures c.in_ok-kind.kind c.in_ok-kind.ensures c.in_ok-next.ensures in
    let byte = sym c.in_ok-kind.ensures ∙ ap kind_byte c.in-FirstPiece.is in
    first_taken _ c.args.s _ _ c.requires read right byte (c.number-turn.ensures ∙ after_first c.of.result _ c.in-FirstPiece.is c.in_ok-next.ensures) (payload_is _ c.args.s _ _ c.requires read right (replicate 67 0) _ (omega arith) c.read_line.ensures.bytes_after) c.in_ok-count-in-FirstPiece.ensures.value c.in_ok-count-in-FirstPiece.ensures.letters_after

pub returns-in_err-count-in-SecondPiece : goal.returns-in_err-count-in-SecondPiece
returns-in_err-count-in-SecondPiece c =
    let read = c.in_ok-frame.ensures.value in
    let right = may_come c.args.s.turn c.of.ensures c.in_ok-kind.kind c.in_ok-kind.ensures c.in_ok-next.ensures in
    let byte = sym c.in_ok-kind.ensures ∙ ap kind_byte c.in-SecondPiece.is in
    let p = err_from_is_err_and c.from_residual-in_err-count-in-SecondPiece.result c.from_residual-in_err-count-in-SecondPiece.ensures.1 in
    rw (p.1, p.2) (second_refused _ c.args.s _ _ c.requires read right byte (payload_is _ c.args.s _ _ c.requires read right (replicate 67 0) _ (omega arith) c.read_line.ensures.bytes_after) c.in_err-count-in-SecondPiece.ensures.value c.in_err-count-in-SecondPiece.ensures.letters_after)

pub returns-in_ok-count-in-SecondPiece : goal.returns-in_ok-count-in-SecondPiece
returns-in_ok-count-in-SecondPiece c =
    let read = c.in_ok-frame.ensures.value in
    let right = may_come c.args.s.turn c.of.ensures c.in_ok-kind.kind c.in_ok-kind.ensures c.in_ok-next.ensures in
    let byte = sym c.in_ok-kind.ensures ∙ ap kind_byte c.in-SecondPiece.is in
    second_taken _ c.args.s _ _ c.requires read right byte (c.number-turn.ensures ∙ after_second c.of.result _ c.in-SecondPiece.is c.in_ok-next.ensures) (payload_is _ c.args.s _ _ c.requires read right (replicate 67 0) _ (omega arith) c.read_line.ensures.bytes_after) c.in_ok-count-in-SecondPiece.ensures.value c.in_ok-count-in-SecondPiece.ensures.letters_after

pub returns-in_default : goal.returns-in_default
returns-in_default c =
    let read = c.in_ok-frame.ensures.value in
    let right = may_come c.args.s.turn c.of.ensures c.in_ok-kind.kind c.in_ok-kind.ensures c.in_ok-next.ensures in
    let d = c.in_default in
    let end = after_end c.of.result _ c.in_ok-next.ensures d.not-Job d.not-FirstPiece d.not-SecondPiece in
    let none = no_bytes c.in_ok-frame.frame.size c.read_line.new.bytes (omega (arith, inside _ c.args.s _ _ c.requires read right, c.read_line.auto)) (eqb-true _ _ (sym c.is_empty.ensures ∙ c.if-is_empty.true)) in
    end_taken _ c.args.s _ _ c.requires read right (sym c.in_ok-kind.ensures ∙ end.0) (c.number-turn.ensures ∙ end.1) none

pub returns-in_default-2 : goal.returns-in_default-2
returns-in_default-2 c =
    let read = c.in_ok-frame.ensures.value in
    let right = may_come c.args.s.turn c.of.ensures c.in_ok-kind.kind c.in_ok-kind.ensures c.in_ok-next.ensures in
    let d = c.in_default in
    let end = after_end c.of.result _ c.in_ok-next.ensures d.not-Job d.not-FirstPiece d.not-SecondPiece in
    end_refused _ c.args.s _ _ c.requires read right (sym c.in_ok-kind.ensures ∙ end.0) (some_bytes c.in_ok-frame.frame.size c.read_line.new.bytes (eqb-false _ _ (sym c.is_empty.ensures ∙ c.if-is_empty.false)))
