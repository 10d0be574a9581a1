-- Of two left extensions of one match that weigh the same neither lies at or beyond the other. Assumes nothing.
use mathlib.Core.Path.{◌≡◌}
use mathlib.Core.Bool.{Bool}
use Prim.Native.Nat.{ℕ}
use native.Mathlib.Omega.{arith}
use Rattle.rules.specs.Matches.{Cell}
use Rattle.rules.specs.Chains.{Heaviest, LeftExtension, AtOrBeyond}
use Rattle.rules.proofs.Heavier.{farther_heavier}

module _ {b : ℕ} {hit : Cell → Bool} {c x y : Cell} (lx : LeftExtension b hit c x) (ly : LeftExtension b hit c y)
    {v w : ℕ} (hx : Heaviest b hit x v) (hy : Heaviest b hit y w) where
  pub abreast : v ≡ w → ¬ (x ≡ y) → ¬ AtOrBeyond x y
  abreast e two far = let less = farther_heavier lx ly two far hx hy in omega arith
