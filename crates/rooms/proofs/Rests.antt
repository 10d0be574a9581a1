-- The rest of a slice, lent from a place on, and the whole when it is back: nothing stands behind the rest. Assumes nothing.
use mathlib.Core.Path.{◌≡◌}
use mathlib.Core.List.{List, ◌++◌, append-nil}
use Prim.Native.Nat.{ℕ, ◌-◌, ◌≤◌}
use native.Mathlib.Omega.{arith}
use borrow.Rule.Slice.PartMut.{mid_of, put_mid, Post-is}
use lib.ListN.{length, take, drop, length-drop}
use lib.Seq.{take_all, drop-length}

-- what is lent from a place on
pub rest_is : (at : ℕ) (xs : List ℕ) → at ≤ length xs → mid_of at (length xs - at) xs ≡ drop at xs
rest_is at xs h = take_all (length xs - at) (drop at xs) (omega (arith, length-drop at xs))

-- and what the whole is when it is back
pub rest_back : (at : ℕ) (xs ys : List ℕ) → at ≤ length xs → put_mid at (length xs - at) xs ys ≡ take at xs ++ ys
rest_back at xs ys h = rw (Post-is at (length xs) xs h, drop-length xs, append-nil)
