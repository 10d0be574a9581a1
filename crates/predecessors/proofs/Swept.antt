-- What the walk relies on holds of the records of a sweep that has come to any place: each is the record over all of them, in order. Assumes nothing.
use mathlib.Core.Path.{◌≡◌, refl, sym, ap, subst, ◌∙◌}
use mathlib.Core.Logic.{◌⊎◌, inl, inr}
use mathlib.Core.Bool.{Bool}
use mathlib.Core.List.Memᴰ
use mathlib.Core.List.{List, [], ◌∷◌, map, Memᴰ}
use Prim.Native.Nat.{ℕ, zero, suc, ◌+◌, ◌≤◌, ◌<◌}
use native.Mathlib.Omega.{arith}
use lib.Dec.{T}
use lib.ListN.{length, get_or, length-map}
use Rattle.rules.specs.declared.Cell.{Cell}
use Rattle.rules.specs.declared.Record.{Record}
use Rattle.rules.specs.Matches.{cell, row_to, matches_to}
use Rattle.rules.specs.Records.{record_of}
use Rattle.rules.specs.Listing.{Before, Ordered}
use Rattle.rules.proofs.ListLaws.{mem_at}
use Rattle.rules.proofs.Weights.{chain_first, chain_grown, Right, sweep_cells}
use Rattle.rules.proofs.MatchList.{row_in, matches_in, row_ordered, matches_ordered, ordered_append}
use Rattle.rules.proofs.Starts.{right_heaviest, sweep_fixed}
use Rattle.rules.proofs.Sweeps.{matched_to, swept_to}
use Rattle.rules.proofs.Among.{among, among_in, records_right}
use Rattle.predecessors.specs.Numbers.{nth}
use Rattle.predecessors.specs.Index.{Single, Known, Sorted}

-- by number
ordered_at : (cs : List Cell) → Ordered cs → (d : Cell) (g h : ℕ) → g < h → h < length cs → Before (get_or cs g d) (get_or cs h d)
ordered_at [] o d g h l k = absurd (omega arith)
ordered_at (c ∷ cs) o d zero zero l k = absurd (omega arith)
ordered_at (c ∷ cs) o d zero (suc h) l k = o.0 (get_or cs h d) (mem_at cs h d (omega arith))
ordered_at (c ∷ cs) o d (suc g) zero l k = absurd (omega arith)
ordered_at (c ∷ cs) o d (suc g) (suc h) l k = ordered_at cs o.1 d g h (omega arith) (omega arith)

pub nth_cell : (xs : List Record) (g : ℕ) → get_or (map (λ (x : Record). x.cell) xs) g (cell 0 0) ≡ (nth xs g).cell
nth_cell [] g = refl
nth_cell (x ∷ xs) zero = refl
nth_cell (x ∷ xs) (suc g) = nth_cell xs g

module _ (b : ℕ) (hit : Cell → Bool) (columns : ℕ) (i j : ℕ) where
  matched_ordered : Ordered (matched_to b hit columns i j)
  unfolding matched_to
  matched_ordered =
      ordered_append (matches_to hit columns i) (row_to hit (suc i) j) (matches_ordered hit columns i) (row_ordered hit (suc i) j)
      (λ x y m n. let h = matches_in hit columns i x m in
      let g = row_in hit (suc i) j y n in
      record { row_le = omega (arith, h.row_until, g.row_is); column_lt = λ q. absurd (omega (arith, h.row_until, g.row_is)) })

  abbrev all : List Record
  all = swept_to b hit columns i j

  swept_fixed : (x : Record) → Memᴰ x all → x ≡ record_of b all x.cell
  unfolding swept_to
  swept_fixed x m = go (sweep_fixed b (matched_to b hit columns i j) [] matched_ordered x m)
    where
      go : Memᴰ x [] ⊎ (x ≡ record_of b all x.cell) → x ≡ record_of b all x.cell
      go (inl n) = absurd (Memᴰ.not-nil n)
      go (inr e) = e

  -- a cell has one record
  swept_single : Single all
  swept_single x y mx my e = swept_fixed x mx ∙ ap (record_of b all) e ∙ sym (swept_fixed y my)

  -- the matches so far are matches of their own, and the records have their heaviest weights
  swept_right : (x : Record) → Memᴰ x all → Right b (among (matched_to b hit columns i j)) x
  unfolding swept_to
  swept_right = records_right (matched_to b hit columns i j) b matched_ordered

  swept_cells : map (λ (x : Record). x.cell) all ≡ matched_to b hit columns i j
  unfolding swept_to
  swept_cells = sweep_cells b hit (matched_to b hit columns i j) []

  -- where a record so far can be: rows 1 to i, or row i + 1 up to column j
  pub record Place (y : Cell) : Type 0 where
    pub is_hit : T (hit y)
    pub row_from : 1 ≤ y.row
    pub row_until : y.row ≤ suc i
    pub column_from : 1 ≤ y.column
    pub own : y.row ≡ suc i → y.column ≤ j
    pub low : y.row ≤ i → y.column ≤ columns

  matched_place : (y : Cell) → Memᴰ y (matched_to b hit columns i j) → Place y
  unfolding matched_to
  matched_place y m = go (Memᴰ.append_cases (matches_to hit columns i) m)
    where
      go : Memᴰ y (matches_to hit columns i) ⊎ Memᴰ y (row_to hit (suc i) j) → Place y
      go (inl n) =
          let h = matches_in hit columns i y n in
          record {
            is_hit = h.is_hit;
            row_from = h.row_from;
            row_until = omega (arith, h.row_until);
            column_from = h.column_from;
            own = λ e. absurd (omega (arith, h.row_until));
            low = λ _. h.column_until;
          }
      go (inr n) =
          let h = row_in hit (suc i) j y n in
          record {
            is_hit = h.is_hit;
            row_from = omega (arith, h.row_is);
            row_until = omega (arith, h.row_is);
            column_from = h.column_from;
            own = λ _. h.column_until;
            low = λ l. absurd (omega (arith, h.row_is));
          }

  pub swept_place : (x : Record) → Memᴰ x all → Place x.cell
  swept_place x m = matched_place x.cell (subst (Memᴰ x.cell) swept_cells (Memᴰ.map (λ (r : Record). r.cell) m))

  pub swept_sorted : Sorted all
  swept_sorted g h l k =
      let e = ap length swept_cells in
      let n = length-map all (λ (x : Record). x.cell) in
      let at : (t : ℕ) → get_or (matched_to b hit columns i j) t (cell 0 0) ≡ (nth all t).cell =
      λ t. ap (λ (cs : List Cell). get_or cs t (cell 0 0)) (sym swept_cells) ∙ nth_cell all t in
      subst (λ (x : Cell). Before x (nth all h).cell) (at g)
      (subst (Before (get_or (matched_to b hit columns i j) g (cell 0 0))) (at h)
      (ordered_at (matched_to b hit columns i j) matched_ordered (cell 0 0) g h l (omega arith)))

  -- what a search for the predecessor of (i + 1, c) asks, for any column c after those that are done
  pub swept_before : (c : ℕ) → j < c → Known b (cell (suc i) c) all
  swept_before c l =
      record {
        hit = among (matched_to b hit columns i j);
        heaviest = λ x m. right_heaviest (swept_right x m);
        single = swept_single;
        rows = λ x m. (swept_place x m).row_until;
        from_one = λ x m. (swept_place x m).column_from;
        own = λ x m e. (let u = (swept_place x m).own e in omega arith);
      }

  -- a weight is at most the sum of its row and column
  pub swept_light : (x : Record) → Memᴰ x all → x.weight ≤ x.cell.row + x.cell.column
  swept_light x m =
      let chain = (swept_right x m).reached in
      let p = matched_place x.start (among_in (matched_to b hit columns i j) x.start (chain_first chain)) in
      omega (arith, (chain_grown chain).weight, p.row_from)
