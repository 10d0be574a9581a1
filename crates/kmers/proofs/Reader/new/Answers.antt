-- Each arm is what the definition gives for its test. Assumes nothing.
use mathlib.Core.Path.{◌∙◌}
use Rattle.kmers.proofs.Bases.{sees_most, sees_all}
use Rattle.kmers.proofs.Reader.new.Goals as goal
use Rattle.kmers.proofs.Reader.new.Goals.{then-mask-eq0, else-mask-eq0}

pub invariant_of-result : goal.invariant_of-result
invariant_of-result c = record {
  looks = elim c.if-mask-eq0.branch [
    | then-mask-eq0 w ↦ w.sees-is ∙ sees_most c.args.mask w.if-mask-eq0.true
    | else-mask-eq0 w ↦ w.sees-is ∙ sees_all c.args.mask w.if-mask-eq0.false
  ];
}
