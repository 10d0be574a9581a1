-- A row's part of the records, and that W records are room enough: what a row adds is behind what was there, and what is held with it is its run.
-- Assumes nothing.
use mathlib.Core.Path.{◌≡◌, refl, sym, ap, subst⁻¹, ◌∙◌}
use mathlib.Core.Bool.{Bool, true, false}
use mathlib.Core.List.{List, [], ◌∷◌, ◌++◌}
use Prim.Native.Nat.{ℕ, zero, suc, ◌+◌, ◌≤◌, ◌<◌}
use native.Mathlib.Omega.{arith}
use native.Mathlib.Nat.{le_refl}
use lib.Dec.{T}
use lib.ListN.{length, take}
use lib.Seq.{ext_get_or, get_or-take, length-take-le}
use Rattle.rules.specs.declared.Cell.{Cell}
use Rattle.rules.specs.declared.Record.{Record}
use Rattle.rules.specs.Lists.{keep}
use Rattle.rules.specs.Matches.{cell, matches_to}
use Rattle.rules.specs.Records.{record_of}
use Rattle.rules.specs.Rooms.{in_run, largest_run}
use Rattle.rules.proofs.Tests.{tests, by_test, Three, below, equal, above, three}
use Rattle.rules.proofs.Starts.{record_cell}
use Rattle.rules.proofs.Sweeps.{swept_to, swept_hit, swept_miss, window_to, window_fits}
use Rattle.predecessors.specs.declared.ring.Ring.{Ring}
use Rattle.predecessors.specs.Numbers.{nothing, nth}
use Rattle.predecessors.proofs.Steps.{mem_nth}
use Rattle.predecessors.proofs.Swept.{swept_place}
use Rattle.rows.proofs.Adding.{nth_old, nth_new, length_snoc}

-- ---- a row's part of the records

pub record Parted (old new : List Record) (i : ℕ) : Type 0 where
  pub same : (g : ℕ) → g < length old → nth new g ≡ nth old g
  pub fresh : (g : ℕ) → length old ≤ g → g < length new → (nth new g).cell.row ≡ i
  pub grown : length old ≤ length new

pub parted_more : (old new : List Record) (i : ℕ) (x : Record) → x.cell.row ≡ i → Parted old new i → Parted old (new ++ (x ∷ [])) i
parted_more old new i x e p =
    let l = length_snoc new x in
    let g = p.grown in
    record { same = λ g h. nth_old new x g (omega arith) ∙ p.same g h; fresh = λ g h k. go g h k (three g (length new)); grown = omega arith }
  where
    go : (g : ℕ) → length old ≤ g → g < length (new ++ (x ∷ [])) → Three g (length new) → (nth (new ++ (x ∷ [])) g).cell.row ≡ i
    go g h k (below q) = ap (λ (r : Record). r.cell.row) (nth_old new x g q) ∙ p.fresh g h q
    go g h k (equal q) = ap (λ (t : ℕ). (nth (new ++ (x ∷ [])) t).cell.row) q ∙ ap (λ (r : Record). r.cell.row) (nth_new new x) ∙ e
    go g h k (above q) = absurd (let l = length_snoc new x in omega arith)

pub row_parted : (b : ℕ) (hit : Cell → Bool) (columns k j : ℕ) → Parted (swept_to b hit columns k 0) (swept_to b hit columns k j) (suc k)
row_parted b hit columns k zero = record { same = λ g h. refl; fresh = λ g h l. absurd (omega arith); grown = le_refl _ }
row_parted b hit columns k (suc j) = go (hit (cell (suc k) (suc j))) refl (row_parted b hit columns k j)
  where
    go : (t : Bool) → hit (cell (suc k) (suc j)) ≡ t → Parted (swept_to b hit columns k 0) (swept_to b hit columns k j) (suc k)
        → Parted (swept_to b hit columns k 0) (swept_to b hit columns k (suc j)) (suc k)
    go false e p = subst⁻¹ (λ (l : List Record). Parted (swept_to b hit columns k 0) l (suc k)) (swept_miss b hit columns k j e) p
    go true e p =
        let x = record_of b (swept_to b hit columns k j) (cell (suc k) (suc j)) in
        subst⁻¹ (λ (l : List Record). Parted (swept_to b hit columns k 0) l (suc k)) (swept_hit b hit columns k j e)
        (parted_more (swept_to b hit columns k 0) (swept_to b hit columns k j) (suc k) x
        (ap (λ (c : Cell). c.row) (record_cell b (swept_to b hit columns k j) (cell (suc k) (suc j)))) p)

-- before a row begins none of its records is there
pub old_row : (b : ℕ) (hit : Cell → Bool) (columns k g : ℕ) → g < length (swept_to b hit columns k 0) → (nth (swept_to b hit columns k 0) g).cell.row ≤ k
old_row b hit columns k g h =
    let p = swept_place b hit columns k 0 (nth (swept_to b hit columns k 0) g) (mem_nth (swept_to b hit columns k 0) g h) in
    let r = p.row_until in
    let c = p.column_from in
    let n : ¬ ((nth (swept_to b hit columns k 0) g).cell.row ≡ suc k) = λ e. (let u = p.own e in omega arith) in
    go r n (three (nth (swept_to b hit columns k 0) g).cell.row (suc k))
  where
    go : (nth (swept_to b hit columns k 0) g).cell.row ≤ suc k → ¬ ((nth (swept_to b hit columns k 0) g).cell.row ≡ suc k)
        → Three (nth (swept_to b hit columns k 0) g).cell.row (suc k) → (nth (swept_to b hit columns k 0) g).cell.row ≤ k
    go r n (below q) = omega arith
    go r n (equal q) = absurd (n q)
    go r n (above q) = absurd (omega arith)

-- ---- W records are room enough

kept_some : (f : Record → Bool) (xs : List Record) (t : ℕ) → ((g : ℕ) → t ≤ g → g < length xs → T (f (nth xs g))) → length xs ≤ t + length (keep f xs)
unfolding keep
kept_some f [] t h = omega arith
kept_some f (x ∷ xs) zero h =
    let ih = kept_some f xs zero (λ g l k. h (suc g) (omega arith) (omega arith)) in
    by_test (λ (l : List Record). suc (length xs) ≤ 0 + length l) (f x) (x ∷ keep f xs) (keep f xs) (λ _. (let i = ih in omega arith))
    (λ n. absurd (n (h 0 (omega arith) (omega arith))))
kept_some f (x ∷ xs) (suc t) h =
    let ih = kept_some f xs t (λ g l k. h (suc g) (omega arith) (omega arith)) in
    by_test (λ (l : List Record). suc (length xs) ≤ suc t + length l) (f x) (x ∷ keep f xs) (keep f xs) (λ _. (let i = ih in omega arith))
    (λ _. (let i = ih in omega arith))

module _ (b : ℕ) (hit : Cell → Bool) (columns rows : ℕ) (ring : Ring) (wide : largest_run b (matches_to hit columns rows) rows ≤ ring.size) where
  pub row_room : (k tail : ℕ) → k < rows
      → ((g : ℕ) → tail ≤ g → g < length (swept_to b hit columns k 0) → suc k ≤ (nth (swept_to b hit columns k 0) g).cell.row + b)
      → length (swept_to b hit columns k columns) ≤ tail + ring.size
  unfolding window_to in_run
  row_room k tail h f =
      let w : length (window_to b hit columns k columns) ≤ largest_run b (matches_to hit columns rows) rows =
      window_fits b hit columns k columns rows h (le_refl _) in
      let s = kept_some (λ x. in_run b (suc k) x.cell) (swept_to b hit columns k columns) tail
      (λ g l q. pass g l q (three g (length (swept_to b hit columns k 0)))) in
      omega arith
    where
      p : Parted (swept_to b hit columns k 0) (swept_to b hit columns k columns) (suc k)
      p = row_parted b hit columns k columns

      near : (g : ℕ) → tail ≤ g → g < length (swept_to b hit columns k columns) → Three g (length (swept_to b hit columns k 0))
          → suc k ≤ (nth (swept_to b hit columns k columns) g).cell.row + b
      near g l q (below z) = let e = ap (λ (r : Record). r.cell.row) (p.same g z) in let u = f g l z in omega arith
      near g l q (equal z) = let e = p.fresh g (omega arith) q in omega arith
      near g l q (above z) = let e = p.fresh g (omega arith) q in omega arith

      pass : (g : ℕ) → tail ≤ g → g < length (swept_to b hit columns k columns) → Three g (length (swept_to b hit columns k 0))
          → T (in_run b (suc k) (nth (swept_to b hit columns k columns) g).cell)
      pass g l q z =
          let n = near g l q z in
          let pl = swept_place b hit columns k columns (nth (swept_to b hit columns k columns) g) (mem_nth (swept_to b hit columns k columns) g q) in
          let r1 = pl.row_from in
          let r2 = pl.row_until in
          simp (in_run, tests) (omega arith)

-- what was there before a row is there after it
pub front_same : (old new : List Record) (i : ℕ) → Parted old new i → (t : ℕ) → t ≤ length old → take t new ≡ take t old
front_same old new i p t h =
    let g = p.grown in
    let ln : length (take t new) ≡ t = length-take-le t new (omega arith) in
    let lo : length (take t old) ≡ t = length-take-le t old h in
    ext_get_or nothing (take t new) (take t old) (ln ∙ sym lo)
    (λ q l. get_or-take t new q nothing (omega arith) ∙ p.same q (omega arith) ∙ sym (get_or-take t old q nothing (omega arith)))
