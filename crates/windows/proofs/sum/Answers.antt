-- `windows::sum` meets its contract: the counts of a range are added one after the other. Assumes nothing.
use Rattle.std.proofs.Common.{◌≡◌, ◌+◌, ◌-◌, ◌%◌, ◌^◌, ◌∙◌, arith, rules}
use Rattle.std.specs.List.{fold, slice_range}
use Rattle.windows.proofs.Windows.{fold_sums}
use Rattle.windows.proofs.sum.Goals as goal

pub returns : goal.returns
returns c =
    let e : c.fold.result ≡ fold (λ a x. (a + x) % 2 ^ 32) 0 (slice_range c.args.counts.now c.args.lo c.args.hi) = search rules in
    e ∙ fold_sums c.args.counts.now c.args.lo (c.args.hi - c.args.lo) (omega (arith, c.told-counts))
