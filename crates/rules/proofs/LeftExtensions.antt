-- A left extension as facts on numbers, and which matches in order are left extensions of which. Assumes nothing.
use mathlib.Core.Path.{◌≡◌}
use Prim.Native.Nat.{ℕ, ◌+◌, ◌≤◌, ◌<◌}
use native.Mathlib.Nat.{lt_of_not-le}
use native.Mathlib.Omega.{arith}
use lib.Dec.{T}
use Rattle.rules.specs.Matches.{Cell, cell}
use Rattle.rules.specs.Chains.{left_extension}
use Rattle.rules.specs.Listing.{Before}
use Rattle.rules.proofs.Tests.{tests, Three, below, equal, above, three}

-- a cell is its row and its column
pub same_cell_lem : {x y : Cell} → x.row ≡ y.row → x.column ≡ y.column → x ≡ y
same_cell_lem er ec = λ i. cell (er i) (ec i)

pub record Extends (b : ℕ) (x y : Cell) : Type 0 where
  pub row_le : x.row ≤ y.row
  pub row_near : y.row ≤ x.row + b
  pub column_le : x.column ≤ y.column
  pub column_near : y.column ≤ x.column + b
  pub moved : x.row + x.column < y.row + y.column

pub extend_facts : (b : ℕ) (x y : Cell) → T (left_extension b x y) → Extends b x y
unfolding left_extension
extend_facts b x y t =
    let h = simp (left_extension, tests) at t in
    record {
      row_le = omega arith;
      row_near = omega arith;
      column_le = omega arith;
      column_near = omega arith;
      moved = lt_of_not-le (λ (g : y.row + y.column ≤ x.row + x.column). h.1 (omega arith, omega arith));
    }

pub facts_extend : (b : ℕ) (x y : Cell) → Extends b x y → T (left_extension b x y)
unfolding left_extension
facts_extend b x y e = simp (left_extension, tests) ((((e.row_le, e.row_near), e.column_le), e.column_near), λ p. omega (arith, e.moved, p))

pub not_self : (b : ℕ) (c : Cell) → ¬ T (left_extension b c c)
not_self b c t = omega (arith, (extend_facts b c c t).moved)

-- a match is no left extension of what stands before it, and is one of what stands after it within b rows and b columns
pub not_after : (b : ℕ) (c y : Cell) → Before c y → ¬ T (left_extension b y c)
not_after b c y h t =
    let e = extend_facts b y c t in
    omega (arith, e, h.column_lt (omega (arith, e, h.row_le)))

pub after_extends : (b : ℕ) (x y : Cell) → Before x y → y.row ≤ x.row + b → x.column ≤ y.column → y.column ≤ x.column + b → T (left_extension b x y)
after_extends b x y f near right reach =
    facts_extend b x y (record { row_le = f.row_le; row_near = near; column_le = right; column_near = reach; moved = go (three x.row y.row) })
  where
    go : Three x.row y.row → x.row + x.column < y.row + y.column
    go (below h) = omega arith
    go (equal h) = omega (arith, f.column_lt h)
    go (above h) = absurd (omega (arith, f.row_le))
