-- What bad_place means: by induction over the letters, it is 0 where all have codes, and else the first place whose letter has none. Assumes nothing.
use mathlib.Core.Path.{◌≡◌, refl, ◌∙◌}
use mathlib.Core.Bool.{Bool, true, false}
use mathlib.Core.List.{List, [], ◌∷◌}
use mathlib.Core.Logic.{◌↔◌}
use Prim.Native.Nat.{ℕ, zero, suc, ◌+◌, ◌<◌, ◌≤◌}
use native.Mathlib.Nat.{not-suc-le-zero, le_of_suc-le-suc, le_antisymm}
use native.Mathlib.Omega.{arith}
use lib.Dec.{eqb, leb}
use lib.ListN.{get_or}
use borrow.Author.Tests.{eqb-true, eqb-false, leb-true, leb-false}
use Rattle.std.proofs.Common.{Some, None}
use Rattle.std.proofs.lemmas.Option.{same_Some}
use Rattle.rules.specs.Letters.{code_of, bad_from, bad_place}
use Rattle.letters.specs.FirstBad.{AllCoded, FirstBad, some_place}

-- what a search finds that has passed n letters before s
data Found (n : ℕ) (s : List ℕ) : Type 0 where
  nothing : bad_from (suc n) s ≡ 0 → AllCoded s → Found n s
  first : (p : ℕ) → bad_from (suc n) s ≡ n + p → FirstBad s p → Found n s

-- one more letter, with a code, before those that were searched
coded_more : (x : ℕ) (xs : List ℕ) → 0 < code_of x → AllCoded xs → AllCoded (x ∷ xs)
coded_more x xs h g zero l = h
coded_more x xs h g (suc i) l = g i (le_of_suc-le-suc l)

first_more : (x : ℕ) (xs : List ℕ) (p : ℕ) → 0 < code_of x → FirstBad xs p → FirstBad (x ∷ xs) (suc p)
first_more x xs p h f = record {
  before = suc f.before;
  here = omega (arith, f.here);
  inside = omega (arith, f.inside);
  bad = f.bad;
  good = go;
}
  where
    go : (i : ℕ) → i < suc f.before → 0 < code_of (get_or (x ∷ xs) i 0)
    go zero l = h
    go (suc i) l = f.good i (le_of_suc-le-suc l)

more : (n x : ℕ) (xs : List ℕ) (t : Bool) → eqb (code_of x) 0 ≡ t → Found (suc n) xs → Found n (x ∷ xs)
unfolding bad_from
more n x xs true e r =
    first 1 (rw e (omega arith)) record {
      before = 0;
      here = refl;
      inside = omega arith;
      bad = eqb-true (code_of x) 0 e;
      good = λ i h. absurd (not-suc-le-zero h);
    }
more n x xs false e (nothing z g) = let c = eqb-false (code_of x) 0 e in nothing (rw e z) (coded_more x xs (omega arith) g)
more n x xs false e (first p z f) = let c = eqb-false (code_of x) 0 e in first (suc p) (rw e (z ∙ omega arith)) (first_more x xs p (omega arith) f)

found : (n : ℕ) (s : List ℕ) → Found n s
unfolding bad_from
found n [] = nothing refl (λ i h. absurd (not-suc-le-zero h))
found n (x ∷ xs) = more n x xs (eqb (code_of x) 0) refl (found (suc n) xs)

-- 0 exactly where every letter has a code
pub bad_none : (s : List ℕ) → bad_place s ≡ 0 ↔ AllCoded s
unfolding bad_place
bad_none s = go (found 0 s)
  where
    go : Found 0 s → bad_from 1 s ≡ 0 ↔ AllCoded s
    go (nothing z g) = (λ _. g, λ _. z)
    go (first p z f) = (λ e. absurd (omega (arith, f.here)), λ g. absurd (omega (arith, f.bad, g f.before f.inside)))

-- else the first bad place
pub bad_first : (s : List ℕ) → 0 < bad_place s → FirstBad s (bad_place s)
unfolding bad_place
bad_first s h = go (found 0 s)
  where
    go : Found 0 s → FirstBad s (bad_from 1 s)
    go (nothing z g) = absurd (omega arith)
    go (first p z f) = let e : bad_from 1 s ≡ p = omega arith in rw e f

-- a place that comes first does not come after another
not_after : (s : List ℕ) (p q : ℕ) → FirstBad s p → FirstBad s q → (t : Bool) → leb p q ≡ t → p ≤ q
not_after s p q f g true e = leb-true p q e
not_after s p q f g false e =
    let l : q < p = leb-false p q e in
    absurd (omega (arith, g.bad, f.good g.before (omega (arith, f.here, g.here))))

-- and there is one first bad place at most
pub first_unique : (s : List ℕ) (p q : ℕ) → FirstBad s p → FirstBad s q → p ≡ q
first_unique s p q f g = le_antisymm (not_after s p q f g (leb p q) refl) (not_after s q p g f (leb q p) refl)

-- ---- a place or none, as `letters::bad_place` answers: the number of document 01, told by whether it is 0

pub placed : {n p : ℕ} → Some p ≡ some_place n → (p ≡ n) × (0 < p)
unfolding some_place
placed {n = zero} e = cc
placed {n = suc n} e = let h : ◌≡◌ {A = ℕ} _ _ = same_Some _ _ e in (h, omega arith)

pub unplaced : {n : ℕ} → None ≡ some_place n → n ≡ 0
unfolding some_place
unplaced {n = zero} e = refl
unplaced {n = suc n} e = cc
