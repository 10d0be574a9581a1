-- Each way out is one case of the definition. Assumes nothing.
use Rattle.std.proofs.lemmas.Result.{err_from_is_err_and}
use Rattle.payloads.proofs.Lines.{line_wrong, kind_wrong, size_wrong, all_right}
use Rattle.payloads.proofs.read_kind.Goals as goal

pub returns-in_err-frame-clause-value : goal.returns-in_err-frame-clause-value
returns-in_err-frame-clause-value c =
    let p = err_from_is_err_and c.from_residual.result c.from_residual.ensures.1 in
    rw (p.1, p.2) (line_wrong _ _ _ c.in_err-frame.field-0.0 c.in_err-frame.ensures.value)

pub returns-then-frame-kind-clause-value : goal.returns-then-frame-kind-clause-value
returns-then-frame-kind-clause-value c = kind_wrong _ _ _ _ _ c.in_ok-frame.ensures.value c.if-frame-kind.true

pub returns-then-frame-size-clause-value : goal.returns-then-frame-size-clause-value
returns-then-frame-size-clause-value c = size_wrong _ _ _ _ _ c.in_ok-frame.ensures.value c.if-frame-kind.false c.if-frame-size.true

pub returns-clause-value : goal.returns-clause-value
returns-clause-value c = all_right _ _ _ _ _ c.in_ok-frame.ensures.value c.if-frame-kind.false c.if-frame-size.false
