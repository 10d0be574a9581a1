-- M and W: the running number is the run of the last row, since each row adds its matches and takes away those of the row that leaves. Assumes nothing.
use mathlib.Core.Path.{◌≡◌, refl, ap, ap₂, ◌∙◌}
use mathlib.Core.List.{List}
use Prim.Native.Nat.{ℕ, suc, ◌+◌, ◌-◌, ◌≤◌, ◌<◌, max}
use native.Mathlib.Omega.{arith}
use native.Mathlib.Numerals.{add-one}
use lib.ListN.{length, get_or}
use Rattle.rules.specs.declared.Cell.{Cell}
use Rattle.rules.specs.Lists.{count, largest_to}
use Rattle.rules.specs.Matches.{matches_to}
use Rattle.rules.specs.Rooms.{in_run, largest_run}
use Rattle.rules.proofs.ListLaws.{largest_to_le, count_length}
use Rattle.tally.specs.Tallies.{counts_of}
use Rattle.matches.specs.Walks.{row_from, walks_to, walked_to, walked, WalkSafe}
use Rattle.matches.proofs.Walked.{walked_next}
use Rattle.tally.proofs.MatchedRows.{run_size}

-- no run has more matches than there are
pub run_few : (b : ℕ) (cells : List Cell) (rows : ℕ) → largest_run b cells rows ≤ length cells
unfolding largest_run
run_few b cells rows = largest_to_le (λ i. count (in_run b i) cells) (length cells) rows (λ i. count_length (in_run b i) cells)

-- the size of a row that is asked for by its columns
pub row_is : {nexts nexts' : List ℕ} {x x' size : ℕ} → nexts' ≡ nexts → x' ≡ x → size ≡ length (row_from nexts' x') → size ≡ length (row_from nexts x)
row_is en ex e = e ∙ λ i. length (row_from (en i) (ex i))

module _ {firsts nexts : List ℕ} (safe : WalkSafe firsts nexts) where
  -- ---- the first rows, one after the other

  pub before_next : {p matches size : ℕ} → p < length firsts → matches ≡ length (walked_to firsts nexts p) → size ≡ length (row_from nexts (get_or firsts p 0))
      → matches + size ≡ length (walked_to firsts nexts (p + 1))
  before_next {p} h m s = rw add-one (omega (arith, m, s, walked_next safe p h))

  -- ---- the row that leaves the run

  module _ {b p : ℕ} where
    pub leaves_none : p ≤ b → length (walked_to firsts nexts (p - b - 1)) + 0 ≡ length (walked_to firsts nexts (p - b))
    leaves_none h =
        let e : p - b - 1 ≡ p - b = omega arith in
        omega (arith, ap (λ (m : ℕ). length (walked_to firsts nexts m)) e)

    pub leaves_row : {r : ℕ} → b < p → p < length firsts → r ≡ length (row_from nexts (get_or firsts (p - b - 1) 0))
        → length (walked_to firsts nexts (p - b - 1)) + r ≡ length (walked_to firsts nexts (p - b))
    leaves_row h g s =
        let m = p - b - 1 in
        let e : p - b ≡ suc m = omega arith in
        omega (arith, s, ap (λ (k : ℕ). length (walked_to firsts nexts k)) e, walked_next safe m (omega arith))

-- ---- the runs

-- after p rows
pub record RunLoop (firsts nexts : List ℕ) (b matches run widest p : ℕ) : Type 0 where
  pub inside : p ≤ length firsts
  pub counted : matches ≡ length (walked_to firsts nexts p)
  pub running : length (walked_to firsts nexts (p - b - 1)) + run ≡ length (walked_to firsts nexts p)
  pub largest : widest ≡ largest_to (λ i. count (in_run b i) (walked firsts nexts)) p

module _ {firsts nexts : List ℕ} {b : ℕ} (safe : WalkSafe firsts nexts) where
  pub run_start : RunLoop firsts nexts b 0 0 0 0
  unfolding walked_to matches_to largest_to
  run_start =
      let e : 0 - b - 1 ≡ 0 = omega arith in
      record {
        inside = omega arith;
        counted = refl;
        running = ap (λ (m : ℕ). length (walked_to firsts nexts m) + 0) e;
        largest = refl;
      }

  module _ {matches run widest p : ℕ} (v : RunLoop firsts nexts b matches run widest p) where
    pub run_next : {size run' widest' : ℕ} (gone : ℕ) → p < length firsts → size ≡ length (row_from nexts (get_or firsts p 0))
        → length (walked_to firsts nexts (p - b - 1)) + gone ≡ length (walked_to firsts nexts (p - b))
        → run' ≡ run + size - gone → widest' ≡ max widest run' → RunLoop firsts nexts b (matches + size) run' widest' (p + 1)
    unfolding largest_to walked walked_to
    run_next {size} {run'} {widest'} gone h s l er ew =
        record {
          inside = omega arith;
          counted = before_next safe h v.counted s;
          running = rw (add-one, e) (omega (arith, v.running, walked_next safe p h, sized));
          largest = rw add-one (rw (ew, now, v.largest));
        }
      where
        e : suc p - b - 1 ≡ p - b
        e = omega arith

        sized : length (walked_to firsts nexts (p - b)) + count (in_run b (suc p)) (walked firsts nexts) ≡ length (walked_to firsts nexts (suc p))
        sized = run_size (walks_to firsts nexts) (length nexts) b p (length firsts) h

        now : run' ≡ count (in_run b (suc p)) (walked firsts nexts)
        now = omega (arith, v.running, walked_next safe p h, sized)

    pub run_end : length firsts ≤ p → record { matches = matches; widest = widest } ≡ counts_of b (walked firsts nexts) (length firsts)
    unfolding counts_of largest_run walked
    run_end h =
        let e : p ≡ length firsts = omega (arith, v.inside) in
        ap₂ (λ (x y : ℕ). record { matches = x; widest = y }) (v.counted ∙ ap (λ (m : ℕ). length (walked_to firsts nexts m)) e)
        (v.largest ∙ ap (largest_to (λ i. count (in_run b i) (walked firsts nexts))) e)
