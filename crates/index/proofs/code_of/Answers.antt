-- Place 0 has no code, and any other is looked up one index lower. Assumes nothing.
use mathlib.Core.Path.{◌∙◌}
use Rattle.index.proofs.Passes.{code_none, code_before}
use Rattle.index.proofs.code_of.Goals as goal

pub returns-then-place-eq0 : goal.returns-then-place-eq0
returns-then-place-eq0 c = code_none _ c.if-place-eq0.true

pub returns-else-place-eq0 : goal.returns-else-place-eq0
returns-else-place-eq0 c = c.code_at.ensures ∙ code_before _ _ c.if-place-eq0.false
