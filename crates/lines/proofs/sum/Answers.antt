-- The fold is the sum that wraps. Assumes nothing.
use Rattle.std.proofs.Common.{◌≡◌, ◌∙◌, ◌+◌, ◌%◌, rules}
use Rattle.std.specs.List.{fold}
use Rattle.lines.proofs.Sums.{sum_folded}
use Rattle.lines.proofs.sum.Goals as goal

pub returns : goal.returns
returns c =
    let e : c.fold.result ≡ fold (λ a x. (a + x) % 256) 0 c.args.bytes.now = search rules in
    e ∙ sum_folded c.args.bytes.now
