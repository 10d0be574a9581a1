-- The chain counts the codes that are not 0. Assumes nothing.
use Rattle.std.proofs.Common.{rules, ◌≡◌, count_by, not, nat_eq, ◌∙◌}
use Rattle.index.proofs.Passes.{count_codes}
use Rattle.index.proofs.count_kmers.Goals as goal

pub returns : goal.returns
returns c =
    let counted : c.count.result ≡ count_by (λ x. not (nat_eq x 0)) c.args.codes.now = search rules in counted ∙ count_codes c.args.codes.now
