-- Whether a match is closed can be told from the latest record of each column when its row leaves: all rows that it could go on to are stored by then,
-- and none beyond them. Assumes nothing.
use mathlib.Core.Path.{◌≡◌, refl, ap, subst, subst⁻¹}
use mathlib.Core.Logic.{◌⊎◌, inl, inr}
use mathlib.Core.Bool.{Bool, true, false, ◌&&◌, ◌||◌, not}
use mathlib.Core.List.{List}
use Prim.Native.Nat.{ℕ, zero, suc, ◌+◌, ◌-◌, ◌≤◌, ◌<◌, min}
use native.Mathlib.Omega.{arith}
use native.Mathlib.Numerals.{add-one}
use borrow.Author.Tests.{le-leb, le-ltb}
use lib.Dec.{T, leb}
use lib.ListN.{length, get_or, get_or-eq_default}
use Rattle.rules.specs.declared.Settings.{Settings}
use Rattle.rules.specs.declared.Cell.{Cell}
use Rattle.rules.specs.declared.Record.{Record}
use Rattle.rules.specs.Lists.{any_of}
use Rattle.rules.specs.Chains.{left_extension}
use Rattle.rules.specs.Listing.{first_span, second_span, long_enough, closed, is_listed}
use Rattle.rules.proofs.Tests.{tests, same_test, T_and, T_leb, tested, T_true, T_false, Three, below, equal, above, three}
use Rattle.rules.proofs.LeftExtensions.{extend_facts, not_self, not_after, after_extends}
use Rattle.rules.proofs.Listings.{any_has, any_some}
use Rattle.predecessors.specs.declared.ring.Ring.{Ring}
use Rattle.predecessors.specs.Numbers.{nth}
use Rattle.listing.specs.Leaving.{later_in, some_from, passes, ReleaseAsks}

-- ---- one of the columns from j on

some_at : (f : ℕ → Bool) (j n q : ℕ) → j ≤ q → q < j + n → T (f q) → T (some_from f j n)
unfolding some_from
some_at f j zero q h l t = absurd (omega arith)
some_at f j (suc n) q h l t = go (tested (some_from f j n)) (some_at f j n q h)
  where
    go : T (some_from f j n) ⊎ (¬ T (some_from f j n)) → (q < j + n → T (f q) → T (some_from f j n)) → T (some_from f j n || f (j + n))
    go (inl s) ih = simp tests (λ k. absurd (k s))
    go (inr s) ih =
        let far : ¬ (q < j + n) = λ k. s (ih k t) in
        let e : q ≡ j + n = omega arith in
        simp tests (λ _. rw e at t)

some_is : (f : ℕ → Bool) (j n : ℕ) → T (some_from f j n) → (q : ℕ) × (j ≤ q) × (q < j + n) × T (f q)
unfolding some_from
some_is f j zero t = absurd t
some_is f j (suc n) t = go (tested (some_from f j n)) (some_is f j n)
  where
    go : T (some_from f j n) ⊎ (¬ T (some_from f j n)) → (T (some_from f j n) → (q : ℕ) × (j ≤ q) × (q < j + n) × T (f q))
        → (q : ℕ) × (j ≤ q) × (q < j + suc n) × T (f q)
    go (inl s) ih = let r = ih s in (r.0, r.1, omega (arith, r.2), r.3)
    go (inr s) ih = let h = simp tests at t in (j + n, omega arith, omega arith, h s)

-- the columns looked at so far, one more, and the first that passes
pub some_none : (f : ℕ → Bool) (j : ℕ) → some_from f j 0 ≡ false
unfolding some_from
some_none f j = refl

pub some_next : (f : ℕ → Bool) (j n : ℕ) → some_from f j n ≡ false → f (j + n) ≡ false → some_from f j (n + 1) ≡ false
unfolding some_from
some_next f j n e d = rw (add-one n) (rw (e, d))

pub some_found : (f : ℕ → Bool) (j n b : ℕ) → n ≤ b → f (j + n) ≡ true → some_from f j (b + 1) ≡ true
some_found f j n b h e = T_true (some_from f j (b + 1)) (some_at f j (b + 1) (j + n) (omega arith) (omega arith) (rw e tt))

-- outside the columns there is no record
pub later_outside : (latest : List ℕ) (t q : ℕ) → length latest ≤ q → later_in latest t q ≡ false
unfolding later_in
later_outside latest t q h = le-ltb (t + 1) (get_or latest q 0) (let e = get_or-eq_default latest 0 h in omega arith)

-- ---- the three tests of a listed match

module _ (latest : List ℕ) (t : ℕ) (x : Record) (c : Settings) where
  abbrev goes : Bool
  goes = some_from (later_in latest t) x.cell.column (c.b + 1)

  abbrev first : ℕ
  first = first_span c.k x.start x.cell

  abbrev second : ℕ
  second = second_span c.k x.start x.cell

  pub short_fails : {s : ℕ} → s ≡ min first second → s < c.m → passes latest t x c ≡ false
  unfolding passes long_enough
  short_fails e h = T_false (not goes && (leb c.m first && leb c.m second)) (λ u. let v = simp (T_and, T_leb) at u in omega (arith, v.1.0, v.1.1))

  pub long_passes : {s : ℕ} → s ≡ min first second → c.m ≤ s → not goes ≡ passes latest t x c
  unfolding passes long_enough
  long_passes e h =
      rw (le-leb c.m first (omega arith), le-leb c.m second (omega arith)) (go goes)
    where
      go : (b : Bool) → not b ≡ not b && true
      go true = refl
      go false = refl

-- ---- and that is the rule

module _ (c : Settings) (i k : ℕ) (all : List Record) (cells : List Cell) (room latest : List ℕ) (ring : Ring) (tail head t : ℕ)
    (a : ReleaseAsks c i k all cells room latest ring tail head) (from : tail ≤ t) (here : t < length all) (old : (nth all t).cell.row + c.b < i) where
  abbrev x : Record
  x = nth all t

  -- a match that x goes on to comes after it, and so does its column's latest
  later_shows : (g : ℕ) → g < length all → T (left_extension c.b x.cell (nth all g).cell) → T (later_in latest t (nth all g).cell.column)
  unfolding later_in
  later_shows g l e = go (three t g)
    where
      go : Three t g → T (later_in latest t (nth all g).cell.column)
      go (below h) = let n = a.machine.columns.newest g l in simp tests (omega arith)
      go (equal h) = absurd (not_self c.b x.cell (subst⁻¹ (λ (n : ℕ). T (left_extension c.b x.cell (nth all n).cell)) h e))
      go (above h) = absurd (not_after c.b (nth all g).cell x.cell (a.sorted g t h here) e)

  -- and a column's latest that comes after x is a match that x goes on to
  shows_later : (q : ℕ) → x.cell.column ≤ q → q < x.cell.column + (c.b + 1) → T (later_in latest t q) → T (any_of (left_extension c.b x.cell) cells)
  unfolding later_in
  shows_later q h l u =
      let v = simp tests at u in
      let s = get_or latest q 0 - 1 in
      let w = a.machine.columns.within q in
      let e = a.machine.columns.column q (omega arith) in
      let r = a.rows s (omega arith) in
      let n = a.machine.kept t from here in
      any_has (left_extension c.b x.cell) (nth all s).cell cells (a.matches s (omega arith))
      (after_extends c.b x.cell (nth all s).cell (a.sorted t s (omega arith) (omega arith)) (omega arith) (omega arith) (omega arith))

  pub closed_now : not (some_from (later_in latest t) x.cell.column (c.b + 1)) ≡ closed c.b cells x.cell
  unfolding closed
  closed_now = ap not (same_test (some_from (later_in latest t) x.cell.column (c.b + 1)) (any_of (left_extension c.b x.cell) cells) forth back)
    where
      forth : T (some_from (later_in latest t) x.cell.column (c.b + 1)) → T (any_of (left_extension c.b x.cell) cells)
      forth u =
          let (q, h, l, v) = some_is (later_in latest t) x.cell.column (c.b + 1) u in
          shows_later q h l v

      back : T (any_of (left_extension c.b x.cell) cells) → T (some_from (later_in latest t) x.cell.column (c.b + 1))
      back u =
          let (y, m, e) = any_some (left_extension c.b x.cell) cells u in
          by_number y e (a.known y m)
        where
          by_number : (y : Cell) → T (left_extension c.b x.cell y) → (y.row < i → (g : ℕ) × (g < length all) × (y ≡ (nth all g).cell))
              → T (some_from (later_in latest t) x.cell.column (c.b + 1))
          by_number y e n =
              let f = extend_facts c.b x.cell y e in
              let (g, l, q) = n (omega (arith, f.row_near)) in
              let ec = ap (λ (z : Cell). z.column) q in
              some_at (later_in latest t) x.cell.column (c.b + 1) (nth all g).cell.column (omega (arith, f.column_le)) (omega (arith, f.column_near))
              (later_shows g l (subst (λ (z : Cell). T (left_extension c.b x.cell z)) q e))

  -- so a record passes where its match is listed
  pub passes_listed : passes latest t x c ≡ is_listed c cells x
  unfolding passes is_listed
  passes_listed = rw closed_now
