-- A slice that is too short is wrong before it is read, and any other is read and then decided. Assumes nothing.
use Rattle.std.proofs.Common.{refl, arith}
use Rattle.index.proofs.Passes.{few_kmers, keyed_again, read_none, read_all, pass_short}
use Rattle.index.proofs.check.Goals as goal

pub returns-then-index-places : goal.returns-then-index-places
returns-then-index-places c =
    record { value = rw (← pass_short c.args.codes.now c.args.index.now c.if-index-places.true c.count_kmers-places.ensures, ← c.count_kmers-places.ensures) refl; keyed = rw (← c.count_kmers-places.ensures) (read_none c.if-index-places.true) }

pub read_keys-requires : goal.read_keys-requires
read_keys-requires c =
    record { n_in_bounds = c.if-index-places.false; n_in_bounds_2 = omega (arith, c.count_kmers-places.ensures, few_kmers c.args.codes.now, c.requires) }

pub begins-right-requires : goal.begins-right-requires
begins-right-requires c =
    record { n_value = c.count_kmers-places.ensures; n_in_bounds = c.if-index-places.false; n_in_bounds_2 = omega (arith, c.count_kmers-places.ensures, few_kmers c.args.codes.now, c.requires, c.read_keys.ensures.long); keyed = keyed_again c.read_keys.ensures }

pub returns-then-right : goal.returns-then-right
returns-then-right c =
    record { value = rw (← c.begins-right.ensures, c.if-right.true, ← c.count_kmers-places.ensures) refl; keyed = rw (← c.count_kmers-places.ensures) (read_all c.if-index-places.false c.read_keys.ensures) }

pub returns-else-right : goal.returns-else-right
returns-else-right c =
    record { value = rw (← c.begins-right.ensures, c.if-right.false, ← c.count_kmers-places.ensures) refl; keyed = rw (← c.count_kmers-places.ensures) (read_all c.if-index-places.false c.read_keys.ensures) }
