-- Each exit gives the first line that refuses, where those before it pass. Assumes nothing.
use Rattle.std.proofs.Common.{sym, ◌∙◌, arith}
use Rattle.refusals.proofs.Checking.{refuses, line_refuses}
use Rattle.building.proofs.Checking.{lines, others, all_lines, past_k, past_mask}
use Rattle.building.proofs.check.Goals as goal

pub returns-in_err-check_setting : goal.returns-in_err-check_setting
returns-in_err-check_setting c =
    let a = c.args in
    refuses (others a.mask a.second.now) (all_lines a.mask a.second.now a.k) (line_refuses _ 1 0 0 (λ z. omega arith))
    c.in_err-check_setting.field-0.0 c.from_residual.result c.from_residual.ensures.1 c.in_err-check_setting.ensures

pub returns-in_err-check_setting-2 : goal.returns-in_err-check_setting-2
returns-in_err-check_setting-2 c =
    let a = c.args in
    refuses (lines a.mask a.second.now) (past_k a.mask a.second.now a.k c.in_ok-check_setting.ensures) (line_refuses _ 10 0 0 (λ z. omega arith))
    c.in_err-check_setting-2.field-0.0 c.from_residual-in_err-check_setting-2.result c.from_residual-in_err-check_setting-2.ensures.1
    c.in_err-check_setting-2.ensures

pub returns : goal.returns
returns c =
    let a = c.args in
    c.check_sequence.ensures ∙ sym (past_mask a.mask a.second.now a.k c.in_ok-check_setting.ensures c.in_ok-check_setting-2.ensures)
