-- Closed in other words: by offsets, as right-maximal, and against the rule that it replaced; and every match is carried on to a closed one.
-- Assumes nothing.
use mathlib.Core.Path.{◌≡◌, refl, sym, subst}
use mathlib.Core.Logic.{◌⊎◌, inl, inr, ◌↔◌}
use mathlib.Core.Bool.{Bool, ◌&&◌}
use mathlib.Core.List.{List}
use Prim.Native.Nat.{ℕ, zero, suc, ◌+◌, ◌-◌, ◌≤◌, ◌<◌}
use native.Mathlib.Omega.{arith}
use native.Mathlib.Nat.{le_refl}
use lib.Dec.{T}
use Rattle.rules.specs.declared.Settings.{Settings}
use Rattle.rules.specs.Lists.{keep, any_of}
use Rattle.rules.specs.Places.{places}
use Rattle.rules.specs.Matches.{Cell, cell, is_match, matches}
use Rattle.rules.specs.Chains.{left_extension, Chain, one, more, Closed, Through, RightMaximal}
use Rattle.rules.specs.Records.{Record, records}
use Rattle.rules.specs.Listing.{closed, long_enough, is_listed, listing}
use Rattle.rules.specs.Earlier.{beyond, closed_earlier, listing_earlier}
use Rattle.rules.proofs.Tests.{tests, T_and, tested}
use Rattle.rules.proofs.LeftExtensions.{same_cell_lem, Extends, extend_facts, facts_extend, not_self}
use Rattle.rules.proofs.ListLaws.{keep_narrower}
use Rattle.rules.proofs.Weights.{chain_hit}
use Rattle.rules.proofs.Jobs.{match_in, match_inside}
use Rattle.rules.proofs.Listings.{any_has, any_some, closed_is}

-- a chain goes through its last match
through_last : {b : ℕ} {hit : Cell → Bool} {p y : Cell} {n : ℕ} (h : Chain b hit p y n) → Through y h
through_last (one t) = refl
through_last (more h e t) = inl refl

module _ (b : ℕ) (hit : Cell → Bool) (c : Cell) where
  -- ---- by offsets

  abbrev NoneAt : Type 0
  NoneAt = (x y : ℕ) → x ≤ b → y ≤ b → 1 ≤ x + y → ¬ T (hit (cell (c.row + x) (c.column + y)))

  pub closed_offsets : Closed b hit c ↔ NoneAt
  closed_offsets = (forth, back)
    where
      forth : Closed b hit c → NoneAt
      forth h x y xb yb some t =
          h.no_match (cell (c.row + x) (c.column + y)) t
          (facts_extend b c (cell (c.row + x) (c.column + y))
          (record { row_le = omega arith; row_near = omega arith; column_le = omega arith; column_near = omega arith; moved = omega arith }))

      back : NoneAt → Closed b hit c
      back h = record { no_match = λ y t e. at y t (extend_facts b c y e) }
        where
          at : (y : Cell) → T (hit y) → Extends b c y → ⊥
          at y t e =
              let er : c.row + (y.row - c.row) ≡ y.row = omega (arith, e.row_le) in
              let ec : c.column + (y.column - c.column) ≡ y.column = omega (arith, e.column_le) in
              h (y.row - c.row) (y.column - c.column) (omega (arith, e.row_near)) (omega (arith, e.column_near))
              (omega (arith, e.moved, e.row_le, e.column_le))
              (subst (λ (z : Cell). T (hit z)) (sym (same_cell_lem er ec)) t)

  -- ---- right-maximal

  through_ends : Closed b hit c → {p y : Cell} {n : ℕ} (h : Chain b hit p y n) → Through c h → y ≡ c
  through_ends z (one t) e = sym e
  through_ends z (more h e t) (inl q) = sym q
  through_ends z (more {x} {y} h e t) (inr q) =
      absurd (z.no_match y t (subst (λ (w : Cell). T (left_extension b w y)) (through_ends z h q) e))

  pub closed_maximal : T (hit c) → Closed b hit c ↔ RightMaximal b hit c
  closed_maximal t = (λ z. record { ends_here = λ p y n h q. through_ends z h q }, back)
    where
      back : RightMaximal b hit c → Closed b hit c
      back r =
          record {
            no_match = λ y u e. not_self b c (subst (λ (z : Cell). T (left_extension b c z)) (r.ends_here c y 2 (more (one t) e u) (inr refl)) e);
          }

-- ---- the rule that it replaced

beyond_extends : (b : ℕ) (c y : Cell) → T (beyond b c y) → T (left_extension b c y)
unfolding beyond
beyond_extends b c y t =
    let h = simp (beyond, tests) at t in
    facts_extend b c y (record { row_le = omega arith; row_near = omega arith; column_le = omega arith; column_near = omega arith; moved = omega arith })

closed_earlier_lem : (b : ℕ) (all : List Cell) (c : Cell) → T (closed b all c) → T (closed_earlier b all c)
unfolding closed closed_earlier
closed_earlier_lem b all c t =
    let none : ¬ T (any_of (left_extension b c) all) = simp tests at t in
    simp tests (λ u. let (z, m, e) = any_some (beyond b c) all u in none (any_has (left_extension b c) z all m (beyond_extends b c z e)))

module _ (c : Settings) (s t : List ℕ) where
  -- so the listing is what is left of the earlier one
  pub listing_left : listing c s t ≡ keep (is_listed c (matches c s t)) (listing_earlier c s t)
  unfolding listing listing_earlier is_listed
  listing_left =
      sym (keep_narrower (is_listed c (matches c s t)) (λ (x : Record). closed_earlier c.b (matches c s t) x.cell && long_enough c x) (records c s t)
      (λ x u. let h = simp T_and at u in simp T_and (closed_earlier_lem c.b (matches c s t) x.cell h.0, h.1)))

  -- ---- going on to the end

  abbrev hit : Cell → Bool
  hit = is_match c s t

  abbrev Carried : Cell → Cell → ℕ → Type 0
  Carried p y n = (z : Cell) × (m : ℕ) × (h : Chain c.b hit p z m) × Through y h × (n ≤ m) × Closed c.b hit z

  -- each step is nearer to the last row and the last column
  carry_on : (fuel : ℕ) (p x y : Cell) (n m : ℕ) (h : Chain c.b hit p y m) → Through x h → n ≤ m
      → places c.k s + places c.k t < y.row + y.column + fuel
      → Carried p x n
  unfolding closed
  carry_on zero p x y n m h q l f = let i = match_inside c s t y (chain_hit h) in absurd (omega (arith, i.row_until, i.column_until))
  carry_on (suc fuel) p x y n m h q l f = go (tested (any_of (left_extension c.b y) (matches c s t))) (λ z. carry_on fuel p x z n (suc m))
    where
      go : T (any_of (left_extension c.b y) (matches c s t)) ⊎ (¬ T (any_of (left_extension c.b y) (matches c s t)))
          → ((z : Cell) (g : Chain c.b hit p z (suc m)) → Through x g → n ≤ suc m
          → places c.k s + places c.k t < z.row + z.column + fuel → Carried p x n)
          → Carried p x n
      go (inl u) on =
          let (z, mz, e) = any_some (left_extension c.b y) (matches c s t) u in
          on z (more h e (match_in c s t z mz)) (inr q) (omega arith) (omega (arith, (extend_facts c.b y z e).moved))
      go (inr u) on = (y, m, h, q, l, (closed_is c s t y).0 (simp tests u))

  pub every_carried : (p y : Cell) (n : ℕ) → Chain c.b hit p y n → Carried p y n
  every_carried p y n h = carry_on (places c.k s + places c.k t + 1) p y y n n h (through_last h) (le_refl n) (omega arith)
