-- Every column's owner by the runs, the directory of all keys, every row's owner by both, and the matches from them. Assumes nothing.
use native.Mathlib.Omega.{arith}
use lib.ListN.{length-take}
use Rattle.totals.proofs.Counting.{all_zeros}
use Rattle.index.proofs.Passes.{few_kmers}
use Rattle.directory.proofs.Buckets.{directory_ready}
use Rattle.lookups.proofs.find_matches.Goals as goal

pub own_columns-requires-clause-zeros : goal.own_columns-requires-clause-zeros
own_columns-requires-clause-zeros c = all_zeros 16384

pub fill_directory-requires-clause-few : goal.fill_directory-requires-clause-few
fill_directory-requires-clause-few c =
    let l = c.args.lookup in omega (arith, l.counted, l.few, few_kmers l.codes.now, length-take l.places l.keys.now)

pub invariant_of-directory : goal.invariant_of-directory
invariant_of-directory c =
    let l = c.args.lookup in
    record { few = l.few; indexed = l.indexed; low_bound = c.requires.low_bound; bucketed = directory_ready l.counted (omega (arith, l.counted, l.indexed.long)) c.fill_directory.ensures }
