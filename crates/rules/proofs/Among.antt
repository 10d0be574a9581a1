-- A list of matches in order, taken as all the matches there are: its records have the heaviest weights of any chain of these. So what is said of any
-- matches holds of a sweep that has come to any place. Assumes nothing.
use mathlib.Core.Path.{refl, subst⁻¹}
use mathlib.Core.Logic.{inr}
use mathlib.Core.Bool.{Bool, ◌&&◌}
use mathlib.Core.List.Memᴰ
use mathlib.Core.List.{List, [], Memᴰ}
use Prim.Native.Nat.{ℕ}
use lib.Dec.{T, eqb}
use Rattle.rules.specs.Lists.{any_of}
use Rattle.rules.specs.Matches.{Cell}
use Rattle.rules.specs.Records.{Record, records_from}
use Rattle.rules.specs.Listing.{Ordered}
use Rattle.rules.proofs.Tests.{tests}
use Rattle.rules.proofs.LeftExtensions.{same_cell_lem}
use Rattle.rules.proofs.Weights.{Right, sweep_right}
use Rattle.rules.proofs.Listings.{any_has, any_some}

-- x and y have the same row and column
unfoldable same_cell : Cell → Cell → Bool
same_cell x y = eqb x.row y.row && eqb x.column y.column

module _ (cells : List Cell) where
  -- y is one of the cells
  unfoldable pub among : Cell → Bool
  unfolding any_of same_cell
  among y = any_of (same_cell y) cells

  pub among_in : (y : Cell) → T (among y) → Memᴰ y cells
  unfolding among same_cell
  among_in y t =
      let (x, m, e) = any_some (same_cell y) cells t in
      let k = simp (same_cell, tests) at e in
      subst⁻¹ (λ (z : Cell). Memᴰ z cells) (same_cell_lem k.0 k.1) m

  pub among_has : (y : Cell) → Memᴰ y cells → T (among y)
  unfolding among same_cell
  among_has y m = any_has (same_cell y) y cells m (simp (same_cell, tests) (refl, refl))

  -- each record has the heaviest weight of any chain of these, reached from its start
  pub records_right : (b : ℕ) → Ordered cells → (x : Record) → Memᴰ x (records_from b [] cells) → Right b among x
  records_right b o = sweep_right b among cells [] (λ x m. absurd (Memᴰ.not-nil m)) (λ y h. inr (among_in y h)) among_has o
