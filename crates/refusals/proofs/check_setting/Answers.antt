-- `refusals::check_setting` meets its contract: its one line applies or does not. Assumes nothing.
use Rattle.std.proofs.Common.{[], sym, ◌∙◌}
use Rattle.rules.specs.Answers.{refusal, given, first_of}
use Rattle.answers.specs.Outcomes.{refusal_of}
use Rattle.refusals.proofs.Checking.{applies, passes_on}
use Rattle.refusals.proofs.check_setting.Goals as goal

pub returns-then-is_outside : goal.returns-then-is_outside
unfolding given
returns-then-is_outside c =
    sym (applies (refusal_of c.args.refusal) [] (refusal 0 0 0) (sym c.is_outside.ensures ∙ c.if-is_outside.true))

pub returns-else-is_outside : goal.returns-else-is_outside
unfolding given first_of
returns-else-is_outside c =
    sym (passes_on (refusal_of c.args.refusal) [] (refusal 0 0 0) (sym c.is_outside.ensures ∙ c.if-is_outside.false))
