use native.Mathlib.Omega.{arith}
use Rattle.directory.proofs.Buckets.{filling_start, in_ends, filling_next}
use Rattle.directory.proofs.fill_directory.Goals as goal

pub loop-q-init : goal.loop-q-init
loop-q-init c = filling_start c.requires.ends_len

pub offset_bounds-ends-bucket : goal.offset_bounds-ends-bucket
offset_bounds-ends-bucket c = omega (arith, in_ends c.loop-q.invariant c.bucket.ensures, c.loop-q.invariant.wide)

pub bounds-ends-bucket : goal.bounds-ends-bucket
bounds-ends-bucket c = in_ends c.loop-q.invariant c.bucket.ensures

pub loop-q-preserved : goal.loop-q-preserved
loop-q-preserved c = filling_next c.loop-q.invariant c.bucket.ensures c.loop-q-test.true
