-- The values so far stand in front. Assumes nothing.
use Rattle.std.proofs.Common.{◌≡◌, take}
use Rattle.frames.proofs.put_codes.Given as goal

abbrev pub invariant-loop-n : goal.invariant-loop-n
invariant-loop-n l = take l.n l.codes ≡ take l.n l.values
