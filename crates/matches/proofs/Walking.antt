-- The walk from match to match gives the row's list: it skips only columns that are no match, whatever the matches are. Assumes nothing.
use mathlib.Core.Path.{◌≡◌, refl, sym, ap, ◌∙◌, subst}
use mathlib.Core.Bool.{Bool, true, false, cond}
use mathlib.Core.List.{List, [], ◌∷◌, ◌++◌, map, append-nil, append_assoc}
use mathlib.Core.Logic.{⊎_elim}
use Prim.Native.Nat.{ℕ, zero, suc, ◌+◌, ◌<◌, ◌≤◌}
use native.Mathlib.Omega.{arith}
use native.Mathlib.Nat.{add-zero, zero-add}
use lib.ListN.{get_or, length}
use Rattle.rules.specs.declared.Cell.{Cell}
use Rattle.rules.specs.Matches.{cell, row_to}
use Rattle.rules.specs.Codes.{code_match}
use Rattle.order.proofs.Cases.{le_or_lt, true_not_false, true_or_false}
use Rattle.nexts.specs.Nexts.{NextColumns}
use Rattle.matches.specs.Columns.{FirstColumns}
use Rattle.matches.specs.Walks.{NextMatch, none_left, next_is, RowWalk, walk}
use Rattle.matches.proofs.Rows.{row_walk}

-- the matches of row i in columns lo + 1, lo + 2, .., m of them
row_from : (Cell → Bool) → ℕ → ℕ → ℕ → List Cell
row_from hit i lo zero = []
row_from hit i lo (suc m) = let r = row_from hit i (suc lo) m in cond (hit (cell i (suc lo))) (cell i (suc lo) ∷ r) r

row_step : {A : Type 0} (t : Bool) (x : A) (xs ys : List A) → (xs ++ cond t (x ∷ []) []) ++ ys ≡ xs ++ cond t (x ∷ ys) ys
row_step true x xs ys = append_assoc xs (x ∷ []) ys
row_step false x xs ys = append_assoc xs [] ys

row_from_lem : (hit : Cell → Bool) (i m lo : ℕ) → row_to hit i (lo + m) ≡ row_to hit i lo ++ row_from hit i lo m
unfolding row_to row_from
row_from_lem hit i zero lo = rw (add-zero lo) (sym (append-nil (row_to hit i lo)))
row_from_lem hit i (suc m) lo =
    let shift : lo + suc m ≡ suc lo + m = omega arith in
    rw shift (row_from_lem hit i m (suc lo) ∙ row_step (hit (cell i (suc lo))) (cell i (suc lo)) (row_to hit i lo) (row_from hit i (suc lo) m))

pub walk_zero : (nexts : List ℕ) (fuel : ℕ) → walk nexts fuel 0 ≡ []
unfolding walk
walk_zero nexts zero = refl
walk_zero nexts (suc fuel) = refl

-- at a match the walk is there; at any other column the next match is further on
there : {hit : Cell → Bool} {i columns j p : ℕ} → j < columns → hit (cell i (suc j)) ≡ true → NextMatch hit i columns j p → p ≡ suc j
there l e (none_left z none) = absurd (true_not_false (sym e ∙ none _ (omega arith) l))
there {j = j} {p = p} l e (next_is after within here none) =
    ⊎_elim
    (λ (h : p ≤ suc j). omega arith)
    (λ (h : suc j < p). absurd (true_not_false (sym e ∙ none (suc j) (omega arith) h)))
    (le_or_lt p (suc j))

further : {hit : Cell → Bool} {i columns j p : ℕ} → hit (cell i (suc j)) ≡ false → NextMatch hit i columns j p
    → NextMatch hit i columns (suc j) p
further e (none_left z none) = none_left z (λ q l m. none q (omega arith) m)
further {hit} {i} {j = j} {p = p} e (next_is after within here none) =
    ⊎_elim
    (λ (h : p ≤ suc j).
    let same : p ≡ suc j = omega arith in
    absurd (true_not_false (sym (subst (λ (q : ℕ). hit (cell i q) ≡ true) same here) ∙ e)))
    (λ (h : suc j < p). next_is h within here (λ q l m. none q (omega arith) m))
    (le_or_lt p (suc j))

nothing_behind : {hit : Cell → Bool} {i columns p : ℕ} → NextMatch hit i columns columns p → p ≡ 0
nothing_behind (none_left z none) = z
nothing_behind (next_is after within here none) = absurd (omega arith)

module _ {hit : Cell → Bool} {i columns start : ℕ} {nexts : List ℕ} (w : RowWalk hit i columns start nexts) where
  walk_from : (m lo fuel x : ℕ) → lo + m ≡ columns → m ≤ fuel → NextMatch hit i columns lo x
      → map (cell i) (walk nexts fuel x) ≡ row_from hit i lo m
  unfolding walk row_from
  walk_from zero lo fuel x at l n =
      let e : lo ≡ columns = omega arith in
      let z : x ≡ 0 = nothing_behind (subst (λ (j : ℕ). NextMatch hit i columns j x) e n) in
      rw z (ap (map (cell i)) (walk_zero nexts fuel))
  walk_from (suc m) lo zero x at l n = absurd (omega arith)
  walk_from (suc m) lo (suc fuel) x at l n =
      ⊎_elim
      (λ (e : hit (cell i (suc lo)) ≡ true).
      let rest = walk_from m (suc lo) fuel (get_or nexts lo 0) (omega arith) (omega arith) (w.follows lo e) in
      rw (e, there (omega arith) e n) (ap (λ (r : List Cell). cell i (suc lo) ∷ r) rest))
      (λ (e : hit (cell i (suc lo)) ≡ false). rw e (walk_from m (suc lo) (suc fuel) x (omega arith) (omega arith) (further e n)))
      (true_or_false (hit (cell i (suc lo))))

  -- for any matches: the walk of a row is the row's list
  pub walk_is_row : (fuel : ℕ) → columns ≤ fuel → map (cell i) (walk nexts fuel start) ≡ row_to hit i columns
  unfolding row_to
  walk_is_row fuel l = walk_from columns 0 fuel start (omega arith) l w.begins ∙ sym (rw (zero-add columns) at (row_from_lem hit i columns 0))

-- THE THEOREM: from a row's first column, by nexts, come exactly the row's matches in order
pub walk_row : {first second : List ℕ} {a : ℕ} {firsts₀ firsts nexts₀ nexts : List ℕ} → FirstColumns first second a firsts₀ firsts
    → NextColumns second nexts₀ nexts
    → (p fuel : ℕ) → p < length first → length second ≤ fuel
    → map (cell (suc p)) (walk nexts fuel (get_or firsts p 0)) ≡ row_to (code_match first second a) (suc p) (length second)
walk_row f n p fuel l h = walk_is_row (row_walk f n p l) fuel h
