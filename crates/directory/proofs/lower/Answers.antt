-- The keys from begin to end rise, so those below the code stand before the others. Assumes nothing.
use Rattle.std.proofs.Common.{rules}
use Rattle.std.proofs.lemmas.List.Sorted.{IsPartitionPoint-from_clause}
use Rattle.directory.proofs.Lookups.{under, parted, lower_at}
use Rattle.directory.proofs.lower.Goals as goal

pub returns : goal.returns
returns c =
    let point = IsPartitionPoint-from_clause (under c.args.c) _ _ c.partition_point.ensures.partitioned (parted c.args.keys.now c.args.begin c.args.end c.args.c c.requires.end_in_bounds c.requires.rising) (λ a r q k. search rules) in
    lower_at _ _ _ _ c.requires.end_in_bounds c.requires.begin_le_end c.partition_point.ensures.bound point
