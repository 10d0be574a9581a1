-- A writer's two ways out: a value that does not fit refuses, and else the line's writer answers for the kind. Assumes nothing.
use mathlib.Core.Path.{◌≡◌, refl}
use mathlib.Core.Bool.{Bool, true, false, ◌&&◌}
use mathlib.Core.List.{List}
use Prim.Native.Nat.{ℕ, ◌≤◌}
use lib.Dec.{leb}
use lib.ListN.{length}
use borrow.Author.Tests.{le-leb}
use Rattle.lines.specs.Writing.{Written, line_of, is_written, written, leaves}
use Rattle.lines.proofs.Lines.{refuses}

pub not_fitting : (line out : List ℕ) (fits : Bool) → fits ≡ false → (record { number = 27; length = 0 } ≡ written fits line out) × (out ≡ leaves fits line out)
unfolding is_written
not_fitting line out fits e = refuses line out fits (rw e)

pub fitting : (kind : ℕ) (payload bytes out left : List ℕ) (fits : Bool) (w : Written) → fits ≡ true → bytes ≡ payload → length payload ≤ 64
    → w ≡ written (leb (length bytes) 64) (line_of kind bytes) out → left ≡ leaves (leb (length bytes) 64) (line_of kind bytes) out
    → (w ≡ written fits (line_of kind payload) out) × (left ≡ leaves fits (line_of kind payload) out)
fitting kind payload bytes out left fits w e p h a b = rw e (rw (p, le-leb (length payload) 64 h) at a, rw (p, le-leb (length payload) 64 h) at b)

-- the line's writer answers where the values fit
pub when_fitting : (kind : ℕ) (payload out left : List ℕ) (fits : Bool) (w : Written) → fits ≡ true
    → w ≡ written (leb (length payload) 64) (line_of kind payload) out → left ≡ leaves (leb (length payload) 64) (line_of kind payload) out
    → (w ≡ written (fits && leb (length payload) 64) (line_of kind payload) out) × (left ≡ leaves (fits && leb (length payload) 64) (line_of kind payload) out)
when_fitting kind payload out left fits w e a b = rw e (a, b)

and_true : (x : Bool) → x && true ≡ x
and_true true = refl
and_true false = refl

-- a payload that no value makes longer than a line
pub short_payload : (kind : ℕ) (payload bytes out left : List ℕ) (fits tested : Bool) (w : Written) → tested ≡ fits → bytes ≡ payload → length payload ≤ 64
    → w ≡ written (tested && leb (length bytes) 64) (line_of kind bytes) out → left ≡ leaves (tested && leb (length bytes) 64) (line_of kind bytes) out
    → (w ≡ written fits (line_of kind payload) out) × (left ≡ leaves fits (line_of kind payload) out)
short_payload kind payload bytes out left fits tested w e p h a b =
    (rw (e, p, le-leb (length payload) 64 h, and_true fits) at a, rw (e, p, le-leb (length payload) 64 h, and_true fits) at b)
