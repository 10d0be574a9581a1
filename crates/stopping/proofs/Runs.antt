-- W and the run of a row, for all rows and for the first r of them: where W is 0 there is no match, and fewer rows need no more room. Assumes nothing.
use mathlib.Core.Path.{◌≡◌, sym, ap, subst⁻¹, ◌∙◌}
use mathlib.Core.Bool.{Bool}
use mathlib.Core.List.{List, [], Memᴰ}
use Prim.Native.Nat.{ℕ, zero, suc, ◌+◌, ◌-◌, ◌%◌, ◌≤◌, zero-le}
use native.Mathlib.Omega.{arith}
use native.Mathlib.Nat.{le_refl, mod-lt, mod_self, mod-add-mod}
use Rattle.rules.specs.declared.Cell.{Cell}
use Rattle.rules.specs.declared.Record.{Record}
use Rattle.rules.specs.Lists.{keep, count, largest_to}
use Rattle.rules.specs.Matches.{matches_to}
use Rattle.rules.specs.Records.{records_from}
use Rattle.rules.specs.Rooms.{in_run, largest_run}
use Rattle.rules.proofs.Tests.{tests}
use Rattle.rules.proofs.ListLaws.{keep_none, count_append, largest_to_ge}
use Rattle.rules.proofs.Sweeps.{swept_rows, swept_all, matches_split, held_window}
use Rattle.predecessors.specs.declared.ring.Ring.{Ring}
use Rattle.predecessors.specs.Numbers.{slot_of}
use Rattle.stopping.specs.Stopping.{RingFrom}

-- ---- W

largest_to_mono : (f g : ℕ → ℕ) (m n : ℕ) → m ≤ n → ((i : ℕ) → 1 ≤ i → i ≤ m → f i ≤ g i) → largest_to f m ≤ largest_to g n
unfolding largest_to
largest_to_mono f g zero n h k = zero-le
largest_to_mono f g (suc m) n h k =
    let a = largest_to_mono f g m n (omega arith) (λ i p q. k i p (omega arith)) in
    let b = k (suc m) (omega arith) (le_refl _) in
    let d = largest_to_ge g n (suc m) (omega arith) h in
    omega arith

module _ (b : ℕ) (hit : Cell → Bool) (columns rows : ℕ) where
  -- fewer rows need no more
  pub fewer_rows : (r : ℕ) → r ≤ rows → largest_run b (matches_to hit columns r) r ≤ largest_run b (matches_to hit columns rows) rows
  unfolding largest_run
  fewer_rows r h =
      let (later, e, k) = matches_split b hit columns r rows h in
      largest_to_mono (λ i. count (in_run b i) (matches_to hit columns r)) (λ i. count (in_run b i) (matches_to hit columns rows)) r rows h
      (λ i p q. let d = ap (count (in_run b i)) e in let a = count_append (in_run b i) (matches_to hit columns r) later in omega arith)

  -- the run of a row is the same among the records of all rows and of those up to it
  pub same_run : (r : ℕ) → r ≤ rows
      → keep (λ (x : Record). in_run b r x.cell) (records_from b [] (matches_to hit columns r))
      ≡ keep (λ (x : Record). in_run b r x.cell) (records_from b [] (matches_to hit columns rows))
  unfolding in_run
  same_run zero h = none 0 ∙ sym (none rows)
    where
      none : (n : ℕ) → keep (λ (x : Record). in_run b 0 x.cell) (records_from b [] (matches_to hit columns n)) ≡ []
      none n =
          keep_none (λ (x : Record). in_run b 0 x.cell) (records_from b [] (matches_to hit columns n))
          (λ x m t. let r = swept_rows b hit columns n 0 x (subst⁻¹ (λ (l : List Record). Memᴰ x l) (swept_all b hit columns n) m) in
          let u = simp (in_run, tests) at t in
          omega (arith, r.0))
  same_run (suc i) h = held_window b hit columns i (suc i) (le_refl _) ∙ sym (held_window b hit columns i rows h)

-- ---- the ring of a stopped sweep

module _ (size before : ℕ) (ring : Ring) (sized : ring.size ≡ size) where
  pub ring_even : ring.origin ≡ 0 → before % size ≡ 0 → RingFrom size before ring
  unfolding slot_of
  ring_even o e =
      record {
        fits = record { some_room = ring.some_room; begins = ring.begins; small = ring.small };
        sized = sized;
        first = rw (sized, o) (let k : before + 0 ≡ before = omega arith in ap (λ (n : ℕ). n % size) k ∙ e);
      }

  pub ring_odd : 1 ≤ size → ring.origin ≡ size - before % size → (before % size ≡ 0 → ⊥) → RingFrom size before ring
  unfolding slot_of
  ring_odd some o n =
      let l = mod-lt before some in
      let k : before % size + (size - before % size) ≡ size = omega arith in
      record {
        fits = record { some_room = ring.some_room; begins = ring.begins; small = ring.small };
        sized = sized;
        first = rw (sized, o) (sym (mod-add-mod before size (size - before % size)) ∙ ap (λ (m : ℕ). m % size) k ∙ mod_self size);
      }
