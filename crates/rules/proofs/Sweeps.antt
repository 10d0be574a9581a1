-- The sweep row by row: the records after i whole rows and j columns of the next, what each step adds, and that W records are room enough for
-- the run that a row needs. Assumes nothing.
use mathlib.Core.Path.{◌≡◌, refl, sym, ap, subst, ◌∙◌}
use mathlib.Core.Logic.{◌⊎◌, inl, inr}
use mathlib.Core.Bool.{Bool, true, false, cond}
use mathlib.Core.Option.{Option, none}
use mathlib.Core.List.Memᴰ
use mathlib.Core.List.{List, [], ◌∷◌, ◌++◌, Memᴰ}
use mathlib.Core.List.{append-nil, append_assoc}
use Prim.Native.Nat.{ℕ, suc, ◌≤◌, ◌<◌}
use native.Mathlib.Nat.{le_refl, le_of_eq, le_trans}
use native.Mathlib.Decide.{le_ind}
use native.Mathlib.Omega.{arith}
use lib.Dec.{T}
use lib.ListN.{length, length-append}
use Rattle.rules.specs.Lists.{keep, count}
use Rattle.rules.specs.Matches.{Cell, cell, row_to, matches_to}
use Rattle.rules.specs.Chains.{left_extension}
use Rattle.rules.specs.Records.{Record, better, pick, record_after, record_of, records_from}
use Rattle.rules.specs.Rooms.{in_run, largest_run}
use Rattle.rules.proofs.Tests.{tests, tested, T_true, T_false}
use Rattle.rules.proofs.ListLaws.{keep_append, keep_none, keep_all, count_keep, count_map, largest_to_ge}
use Rattle.rules.proofs.LeftExtensions.{extend_facts}
use Rattle.rules.proofs.MatchList.{row_in, matches_in}
use Rattle.rules.proofs.Weights.{sweep_cells, sweep_snoc}
use Rattle.rules.proofs.Starts.{record_cell, sweep_rest}

pub pick_keep : (b : ℕ) (c : Cell) (f : Record → Bool) (xs : List Record) (o : Option Record)
    → ((x : Record) → Memᴰ x xs → T (left_extension b x.cell c) → T (f x)) → pick b c o (keep f xs) ≡ pick b c o xs
unfolding keep pick
pick_keep b c f [] o h = refl
pick_keep b c f (x ∷ xs) o h = go (tested (f x)) (λ u. pick_keep b c f xs u (λ y m. h y (Memᴰ.tail m)))
  where
    go : T (f x) ⊎ (¬ T (f x)) → ((u : Option Record) → pick b c u (keep f xs) ≡ pick b c u xs)
        → pick b c o (cond {A = List Record} (f x) (x ∷ keep f xs) (keep f xs)) ≡ pick b c (cond (left_extension b x.cell c) (better o x) o) xs
    go (inl p) ih = rw (T_true (f x) p) (ih (cond (left_extension b x.cell c) (better o x) o))
    go (inr p) ih =
        rw (T_false (f x) p, T_false (left_extension b x.cell c) (λ e. p (h x (Memᴰ.head refl) e))) (ih o)

-- the next record over the window is the next record over all records
pub window_record : (b : ℕ) (xs : List Record) (c : Cell) → ((x : Record) → Memᴰ x xs → 1 ≤ x.cell.row)
    → record_of b (keep (λ x. in_run b c.row x.cell) xs) c ≡ record_of b xs c
unfolding record_of in_run
window_record b xs c h =
    ap (record_after c)
    (pick_keep b c (λ x. in_run b c.row x.cell) xs none
    (λ x m e. let g = extend_facts b x.cell c e in
    let r = h x m in
    simp (in_run, tests) (omega (arith, g, r))))

pub sweep_append : (b : ℕ) (xs ys : List Cell) (acc : List Record) → records_from b acc (xs ++ ys) ≡ records_from b (records_from b acc xs) ys
unfolding records_from
sweep_append b [] ys acc = refl
sweep_append b (x ∷ xs) ys acc = sweep_append b xs ys (acc ++ (record_of b acc x ∷ []))

module _ (b : ℕ) (hit : Cell → Bool) (columns : ℕ) where
  -- the matches after i whole rows and j columns of the next
  unfoldable pub matched_to : ℕ → ℕ → List Cell
  unfolding matches_to row_to
  matched_to i j = matches_to hit columns i ++ row_to hit (suc i) j

  -- and their records
  unfoldable pub swept_to : ℕ → ℕ → List Record
  unfolding matched_to records_from
  swept_to i j = records_from b [] (matched_to i j)

  pub swept_start : swept_to 0 0 ≡ []
  unfolding swept_to
  swept_start = refl

  -- the end of a row is the start of the next
  pub swept_row : (i : ℕ) → swept_to (suc i) 0 ≡ swept_to i columns
  unfolding swept_to
  swept_row i = ap (records_from b []) (append-nil (matches_to hit columns i ++ row_to hit (suc i) columns))

  pub swept_all : (i : ℕ) → swept_to i 0 ≡ records_from b [] (matches_to hit columns i)
  unfolding swept_to
  swept_all i = ap (records_from b []) (append-nil (matches_to hit columns i))

  row_step : (i j : ℕ) (t : Bool) → hit (cell i (suc j)) ≡ t → row_to hit i (suc j) ≡ row_to hit i j ++ cond t (cell i (suc j) ∷ []) []
  unfolding row_to
  row_step i j t e = rw e

  pub matched_miss : (i j : ℕ) → hit (cell (suc i) (suc j)) ≡ false → matched_to i (suc j) ≡ matched_to i j
  unfolding matched_to
  matched_miss i j e =
      ap (λ (l : List Cell). matches_to hit columns i ++ l) (row_step (suc i) j false e ∙ append-nil (row_to hit (suc i) j))

  pub matched_hit : (i j : ℕ) → hit (cell (suc i) (suc j)) ≡ true → matched_to i (suc j) ≡ matched_to i j ++ (cell (suc i) (suc j) ∷ [])
  unfolding matched_to
  matched_hit i j e =
      ap (λ (l : List Cell). matches_to hit columns i ++ l) (row_step (suc i) j true e)
      ∙ sym (append_assoc (matches_to hit columns i) (row_to hit (suc i) j) (cell (suc i) (suc j) ∷ []))

  pub swept_miss : (i j : ℕ) → hit (cell (suc i) (suc j)) ≡ false → swept_to i (suc j) ≡ swept_to i j
  unfolding swept_to
  swept_miss i j e = ap (records_from b []) (matched_miss i j e)

  pub swept_hit : (i j : ℕ) → hit (cell (suc i) (suc j)) ≡ true
      → swept_to i (suc j) ≡ swept_to i j ++ (record_of b (swept_to i j) (cell (suc i) (suc j)) ∷ [])
  unfolding swept_to
  swept_hit i j e = ap (records_from b []) (matched_hit i j e) ∙ sweep_snoc b hit (matched_to i j) (cell (suc i) (suc j)) []

  -- every record so far is of rows 1 to i + 1
  pub swept_rows : (i j : ℕ) (x : Record) → Memᴰ x (swept_to i j) → (1 ≤ x.cell.row) × (x.cell.row ≤ suc i)
  unfolding swept_to matched_to
  swept_rows i j x m =
      go (Memᴰ.append_cases (matches_to hit columns i)
      (subst (λ (l : List Cell). Memᴰ x.cell l) (sweep_cells b hit (matched_to i j) []) (Memᴰ.map (λ (r : Record). r.cell) m)))
    where
      go : Memᴰ x.cell (matches_to hit columns i) ⊎ Memᴰ x.cell (row_to hit (suc i) j) → (1 ≤ x.cell.row) × (x.cell.row ≤ suc i)
      go (inl n) = let h = matches_in hit columns i x.cell n in (h.row_from, omega (arith, h.row_until))
      go (inr n) = let h = row_in hit (suc i) j x.cell n in (omega (arith, h.row_is), omega (arith, h.row_is))

  -- ---- the window: of the records so far, those of rows max(1, i + 1 - b) to i + 1, which is what the work room holds

  unfoldable pub window_to : ℕ → ℕ → List Record
  unfolding keep swept_to in_run
  window_to i j = keep (λ x. in_run b (suc i) x.cell) (swept_to i j)

  pub window_miss : (i j : ℕ) → hit (cell (suc i) (suc j)) ≡ false → window_to i (suc j) ≡ window_to i j
  unfolding window_to
  window_miss i j e = ap (keep (λ x. in_run b (suc i) x.cell)) (swept_miss i j e)

  -- one more match: its record over the window goes behind the window
  pub window_hit : (i j : ℕ) → hit (cell (suc i) (suc j)) ≡ true
      → window_to i (suc j) ≡ window_to i j ++ (record_of b (window_to i j) (cell (suc i) (suc j)) ∷ [])
  unfolding window_to
  window_hit i j e =
      let c = cell (suc i) (suc j) in
      let f : Record → Bool = λ x. in_run b (suc i) x.cell in
      let z = record_of b (swept_to i j) c in
      let w : z ≡ record_of b (keep f (swept_to i j)) c = sym (window_record b (swept_to i j) c (λ x m. (swept_rows i j x m).0)) in
      ap (keep f) (swept_hit i j e)
      ∙ keep_append f (swept_to i j) (z ∷ [])
      ∙ ap (λ (l : List Record). keep f (swept_to i j) ++ l)
      (keep_all f (z ∷ []) (λ x m. let q = ap (λ (r : Record). r.cell.row) (Memᴰ.eq_of_singleton m)
      ∙ ap (λ (y : Cell). y.row) (record_cell b (swept_to i j) c) in
      simp (in_run, tests) (omega arith)))
      ∙ ap (λ (r : Record). keep f (swept_to i j) ++ (r ∷ [])) w

module _ (b : ℕ) (hit : Cell → Bool) (columns : ℕ) where
  -- later rows come behind
  pub matches_split : (i n : ℕ) → i ≤ n
      → (later : List Cell) × (matches_to hit columns n ≡ matches_to hit columns i ++ later) × ((y : Cell) → Memᴰ y later → i < y.row)
  unfolding matches_to
  matches_split i n h =
      le_ind (λ (m : ℕ). (later : List Cell) × (matches_to hit columns m ≡ matches_to hit columns i ++ later) × ((y : Cell) → Memᴰ y later → i < y.row))
      ([], sym (append-nil (matches_to hit columns i)), λ y m. absurd (Memᴰ.not-nil m))
      (λ m g s.
      let (later, e, f) = s in (
        later ++ row_to hit (suc m) columns,
        ap (λ (l : List Cell). l ++ row_to hit (suc m) columns) e ∙ append_assoc (matches_to hit columns i) later (row_to hit (suc m) columns),
        λ y k. in_row m g later f y (Memᴰ.append_cases later k),
      ))
      n h
    where
      in_row : (m : ℕ) → i ≤ m → (later : List Cell) → ((y : Cell) → Memᴰ y later → i < y.row) → (y : Cell)
          → Memᴰ y later ⊎ Memᴰ y (row_to hit (suc m) columns) → i < y.row
      in_row m g later f y (inl k) = f y k
      in_row m g later f y (inr k) = omega (arith, (row_in hit (suc m) columns y k).row_is)

  -- of all records, those of the window of row i + 1 are what the sweep holds after that row
  pub held_window : (i n : ℕ) → suc i ≤ n
      → keep (λ x. in_run b (suc i) x.cell) (records_from b [] (matches_to hit columns n)) ≡ window_to b hit columns i columns
  unfolding window_to
  held_window i n h =
      let f : Record → Bool = λ x. in_run b (suc i) x.cell in
      let (later, e, g) = matches_split (suc i) n h in
      let old = records_from b [] (matches_to hit columns (suc i)) in
      let (rest, r, k) = sweep_rest b later old in
      ap (λ (l : List Cell). keep f (records_from b [] l)) e
      ∙ ap (keep f) (sweep_append b (matches_to hit columns (suc i)) later [])
      ∙ ap (keep f) r
      ∙ keep_append f old rest
      ∙ ap (λ (l : List Record). keep f old ++ l)
      (keep_none f rest (λ x m t. let u = simp (in_run, tests) at t in
      let v = g x.cell (k x m) in omega arith))
      ∙ append-nil (keep f old)
      ∙ ap (keep f) (sym (swept_all b hit columns (suc i)) ∙ swept_row b hit columns i)

  -- the window only grows along a row
  window_grows : (i j : ℕ) → length (window_to b hit columns i j) ≤ length (window_to b hit columns i (suc j))
  window_grows i j = go (tested (hit (cell (suc i) (suc j))))
    where
      go : T (hit (cell (suc i) (suc j))) ⊎ (¬ T (hit (cell (suc i) (suc j)))) → length (window_to b hit columns i j) ≤ length (window_to b hit columns i (suc j))
      go (inl t) =
          omega (
            arith,
            ap length (window_hit b hit columns i j (T_true _ t)),
            length-append (window_to b hit columns i j) (record_of b (window_to b hit columns i j) (cell (suc i) (suc j)) ∷ []),
          )
      go (inr t) = le_of_eq (ap length (sym (window_miss b hit columns i j (T_false _ t))))

  window_to_end : (i j : ℕ) → j ≤ columns → length (window_to b hit columns i j) ≤ length (window_to b hit columns i columns)
  window_to_end i j g =
      le_ind (λ (m : ℕ). length (window_to b hit columns i j) ≤ length (window_to b hit columns i m)) (le_refl _)
      (λ m _ e. le_trans e (window_grows i m)) columns g

  -- how many a sweep holds after a row is counted from the matches alone
  pub window_count : (i n : ℕ) → suc i ≤ n → length (window_to b hit columns i columns) ≡ count (in_run b (suc i)) (matches_to hit columns n)
  window_count i n h =
      let f : Record → Bool = λ x. in_run b (suc i) x.cell in
      let all = records_from b [] (matches_to hit columns n) in
      ap length (sym (held_window i n h)) ∙ sym (count_keep f all) ∙ sym (count_map (in_run b (suc i)) (λ (x : Record). x.cell) all)
      ∙ ap (count (in_run b (suc i))) (sweep_cells b hit (matches_to hit columns n) [])

  -- at every step the window holds at most W records
  pub window_fits : (i j n : ℕ) → suc i ≤ n → j ≤ columns → length (window_to b hit columns i j) ≤ largest_run b (matches_to hit columns n) n
  unfolding largest_run
  window_fits i j n h g =
      le_trans (window_to_end i j g)
      (le_trans (le_of_eq (window_count i n h)) (largest_to_ge (λ k. count (in_run b k) (matches_to hit columns n)) n (suc i) (omega arith) h))
