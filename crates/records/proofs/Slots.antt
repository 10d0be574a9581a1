-- A record put into a slot is there, whole, and every other slot is as it was: slots are eight numbers apart. Assumes nothing.
use mathlib.Core.Path.{◌≡◌, refl, sym, ap, ◌∙◌}
use mathlib.Core.List.{List, [], ◌∷◌}
use Prim.Native.Nat.{ℕ, zero, suc, ◌+◌, ◌*◌, ◌≤◌, ◌<◌}
use native.Mathlib.Nat.{add-zero}
use native.Mathlib.Omega.{arith}
use lib.ListN.{length, get_or, set, length-set}
use lib.Seq.{sets, get_or-set_same, get_or-set_other}
use Rattle.rules.specs.declared.Record.{Record}
use Rattle.rules.specs.Matches.{cell}
use Rattle.rules.specs.Rooms.{record_numbers}
use Rattle.rules.proofs.Tests.{Three, below, equal, above, three}
use Rattle.records.specs.Layout.{record_in, Holds, put_record}

-- a run of stores: before it and after it nothing changes, and inside it stands what was stored
pub sets_before : (l : List ℕ) (i : ℕ) (vs : List ℕ) (j : ℕ) → j < i → get_or (sets l i vs) j 0 ≡ get_or l j 0
sets_before l i [] j h = refl
sets_before l i (v ∷ vs) j h = sets_before (set l i v) (suc i) vs j (omega arith) ∙ get_or-set_other l i j v 0 (λ e. omega arith)

pub sets_after : (l : List ℕ) (i : ℕ) (vs : List ℕ) (j : ℕ) → i + length vs ≤ j → get_or (sets l i vs) j 0 ≡ get_or l j 0
sets_after l i [] j h = refl
sets_after l i (v ∷ vs) j h = sets_after (set l i v) (suc i) vs j (omega arith) ∙ get_or-set_other l i j v 0 (λ e. omega arith)

pub sets_at : (l : List ℕ) (i : ℕ) (vs : List ℕ) (k : ℕ) → k < length vs → i + length vs ≤ length l → get_or (sets l i vs) (i + k) 0 ≡ get_or vs k 0
sets_at l i [] k h f = absurd (omega arith)
sets_at l i (v ∷ vs) zero h f =
    let e : i + 0 ≡ i = omega arith in
    rw e (sets_before (set l i v) (suc i) vs i (omega arith) ∙ get_or-set_same l i v 0 (omega arith))
sets_at l i (v ∷ vs) (suc k) h f =
    let e : i + suc k ≡ suc i + k = omega arith in
    rw e (sets_at (set l i v) (suc i) vs k (omega arith) (let g = length-set l i v in omega arith))

-- what a slot holds is what is read from it
pub holds_record : (room : List ℕ) (slot : ℕ) (x : Record) → Holds room slot x → record_in room slot ≡ x
unfolding record_in record_numbers
holds_record room slot x h =
    let z : get_or room (8 * slot) 0 ≡ x.cell.row = ap (λ (t : ℕ). get_or room t 0) (sym (add-zero (8 * slot))) ∙ h.numbers 0 (omega arith) in
    λ t. record {
      cell = cell (z t) (h.numbers 1 (omega arith) t);
      weight = h.numbers 2 (omega arith) t;
      start = cell (h.numbers 3 (omega arith) t) (h.numbers 4 (omega arith) t);
    }

module _ (room : List ℕ) (slot : ℕ) (x : Record) where
  pub put_same : 8 * slot + 8 ≤ length room → Holds (put_record room slot x) slot x
  unfolding put_record record_numbers
  put_same h = record { numbers = λ k l. sets_at room (8 * slot) (record_numbers x) k l h }

  pub put_other : (other : ℕ) (y : Record) → (other ≡ slot → ⊥) → Holds room other y → Holds (put_record room slot x) other y
  unfolding put_record record_numbers
  put_other other y n h = record { numbers = λ k l. go k l (three other slot) ∙ h.numbers k l }
    where
      go : (k : ℕ) → k < 8 → Three other slot → get_or (sets room (8 * slot) (record_numbers x)) (8 * other + k) 0 ≡ get_or room (8 * other + k) 0
      go k l (below g) = sets_before room (8 * slot) (record_numbers x) (8 * other + k) (omega arith)
      go k l (equal g) = absurd (n g)
      go k l (above g) = sets_after room (8 * slot) (record_numbers x) (8 * other + k) (omega arith)
