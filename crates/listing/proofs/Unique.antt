-- In a state of the sweep a release is fixed: how many records leave, how many entries there are, and their numbers where the room holds them.
-- Assumes nothing.
use mathlib.Core.Path.{◌≡◌, sym, subst, ◌∙◌}
use mathlib.Core.List.{List}
use Prim.Native.Nat.{ℕ, ◌*◌, ◌≤◌}
use native.Mathlib.Omega.{arith}
use lib.ListN.{length, take}
use Rattle.rules.specs.declared.Settings.{Settings}
use Rattle.rules.specs.declared.Cell.{Cell}
use Rattle.rules.specs.declared.Record.{Record}
use Rattle.rules.proofs.Tests.{Three, below, equal, above, three}
use Rattle.predecessors.specs.declared.ring.Ring.{Ring}
use Rattle.rows.specs.Machine.{Machine}
use Rattle.listing.specs.declared.Released.{Released}
use Rattle.listing.specs.Leaving.{ListedTo, ReleaseAsks, ReleaseDone}

-- a state at row i has one tail: what is before it has left, and what is from it on has not
tail_one : {b i : ℕ} {all : List Record} {room latest : List ℕ} {ring : Ring} {t u : ℕ} → Machine b i all room latest ring t
    → Machine b i all room latest ring u → t ≡ u
tail_one {t = t} {u = u} m n = go (three t u)
  where
    go : Three t u → t ≡ u
    go (equal e) = e
    go (below h) = let o = n.order in absurd (omega (arith, m.kept t (omega arith) (omega arith), n.gone t h (omega arith)))
    go (above h) = let o = m.order in absurd (omega (arith, n.kept u (omega arith) (omega arith), m.gone u h (omega arith)))

-- so many entries, and the same numbers where the rooms hold them
pub listed_one : {c : Settings} {cells : List Cell} {released : List Record} {x y : List ℕ} {n m : ℕ} → ListedTo c cells released x n
    → ListedTo c cells released y m → (n ≡ m) × (6 * n ≤ length x → 6 * m ≤ length y → take (6 * n) x ≡ take (6 * m) y)
listed_one a b = (a.counted ∙ sym b.counted, λ p q. a.entries p ∙ sym (b.entries q))

-- any two results of `listing::release` are equal in what they state
pub released_one : {c : Settings} {i k : ℕ} {all : List Record} {cells : List Cell} {room latest : List ℕ} {ring : Ring} {tail head : ℕ} {list : List ℕ}
    {listed : ℕ} {x y : List ℕ} {r s : Released} → ReleaseAsks c i k all cells room latest ring tail head → ListedTo c cells (take tail all) list listed
    → ReleaseDone c i room latest ring tail head list listed x r → ReleaseDone c i room latest ring tail head list listed y s
    → (r.tail ≡ s.tail) × (r.listed ≡ s.listed)
    × (6 * r.listed ≤ length x → 6 * s.listed ≤ length y → take (6 * r.listed) x ≡ take (6 * s.listed) y)
released_one {c} {k = k} {all = all} {cells = cells} {y = y} {s = s} asks listed a b =
    let tails = tail_one (a.released k all cells asks) (b.released k all cells asks) in
    let other = subst (λ (t : ℕ). ListedTo c cells (take t all) y s.listed) (sym tails) (b.entered k all cells asks listed) in
    let one = listed_one (a.entered k all cells asks listed) other in
    (tails, one.0, one.1)
