-- The shift divides, and the remainder keeps fourteen bits. Assumes nothing.
use mathlib.Core.Path.{refl}
use Rattle.directory.specs.Directory.{bucket_of}
use Rattle.directory.proofs.bucket.Goals as goal

pub returns : goal.returns
unfolding bucket_of
returns c =
    refl
