-- Every safe walk describes some matches, those that it comes to; and any matches that it describes are these. Assumes nothing.
use mathlib.Core.Path.{◌≡◌, refl, sym, ap, ◌∙◌}
use mathlib.Core.Bool.{Bool, true, false}
use mathlib.Core.List.{List, [], ◌∷◌}
use mathlib.Core.Logic.{⊎_elim}
use Prim.Native.Nat.{ℕ, zero, suc, ◌+◌, ◌-◌, ◌*◌, ◌<◌, ◌≤◌}
use native.Mathlib.Nat.{le_refl, mul-le-mul}
use native.Mathlib.Omega.{arith}
use lib.Dec.{eqb}
use lib.ListN.{length, get_or, length-append, length-map}
use borrow.Author.Tests.{eq-eqb, ne_eqb}
use Rattle.rules.specs.declared.Cell.{Cell}
use Rattle.rules.specs.Lists.{any_of}
use Rattle.rules.specs.Matches.{cell, row_to, matches_to}
use Rattle.rules.proofs.Bounds.{few_matches}
use Rattle.order.proofs.Cases.{le_or_lt, eq_or_ne, true_not_false}
use Rattle.matches.specs.Walks.{NextMatch, none_left, next_is, RowWalk, walk, row_from, on_walk, walks_to, walked_to, StepsSafe, NextsSafe, WalkSafe, Described}
use Rattle.matches.proofs.Walking.{walk_zero, walk_is_row}

-- of few columns or many
pub steps_safe : {nexts : List ℕ} → NextsSafe nexts → StepsSafe nexts
steps_safe safe = record { inside = safe.inside; rising = safe.rising }

module _ {nexts : List ℕ} (safe : StepsSafe nexts) where
  -- steps for every column from x on are enough, and more change nothing
  steps_same : (f g x : ℕ) → x ≤ length nexts → (1 ≤ x → length nexts < f + x) → (1 ≤ x → length nexts < g + x) → walk nexts f x ≡ walk nexts g x
  unfolding walk
  steps_same zero g zero l a b = sym (walk_zero nexts g)
  steps_same zero g (suc j) l a b = absurd (omega (arith, a (omega arith)))
  steps_same (suc f) g zero l a b = sym (walk_zero nexts g)
  steps_same (suc f) zero (suc j) l a b = absurd (omega (arith, b (omega arith)))
  steps_same (suc f) (suc g) (suc j) l a b =
      ap (λ (r : List ℕ). suc j ∷ r) (steps_same f g (get_or nexts j 0) (safe.inside j)
      (λ h. omega (arith, a (omega arith), safe.rising j h)) (λ h. omega (arith, b (omega arith), safe.rising j h)))

  -- a column, and the row from the next
  pub row_next : (j : ℕ) → 1 ≤ j → j ≤ length nexts → row_from nexts j ≡ j ∷ row_from nexts (get_or nexts (j - 1) 0)
  unfolding row_from walk
  row_next j h l = go (length nexts) j h l refl
    where
      go : (n j : ℕ) → 1 ≤ j → j ≤ n → n ≡ length nexts → walk nexts n j ≡ j ∷ walk nexts n (get_or nexts (j - 1) 0)
      go n zero h l e = absurd (omega arith)
      go zero (suc p) h l e = absurd (omega arith)
      go (suc n) (suc p) h l e =
          let back : suc p - 1 ≡ p = omega arith in
          rw back (ap (λ (r : List ℕ). suc p ∷ r) (steps_same n (suc n) (get_or nexts p 0) (safe.inside p)
          (λ k. omega (arith, safe.rising p k)) (λ k. omega (arith, safe.rising p k))))

  -- so that fewer columns are left
  pub row_less : (j : ℕ) → 1 ≤ j → j ≤ length nexts → length (row_from nexts (get_or nexts (j - 1) 0)) < length (row_from nexts j)
  row_less j h l = omega (arith, ap length (row_next j h l))

  -- a walk rises: no column before x is on the walk from x
  early : (f x q : ℕ) → (1 ≤ x → q < x) → any_of (eqb q) (walk nexts f x) ≡ false
  unfolding walk any_of
  early zero x q l = refl
  early (suc f) zero q l = refl
  early (suc f) (suc j) q l =
      rw (ne_eqb q (suc j) (λ e. omega (arith, l (omega arith))))
      (early f (get_or nexts j 0) q (λ h. omega (arith, l (omega arith), safe.rising j h)))

  here : (f p : ℕ) → 1 ≤ f → any_of (eqb (suc p)) (walk nexts f (suc p)) ≡ true
  unfolding walk any_of
  here zero p l = absurd (omega arith)
  here (suc f) p l = rw (eq-eqb (suc p) (suc p) refl)

  -- behind a column of the walk come the columns of the walk from the next
  behind : (f x j q : ℕ) → x ≤ length nexts → (1 ≤ x → length nexts < f + x) → any_of (eqb (suc j)) (walk nexts f x) ≡ true → suc j < q
      → any_of (eqb q) (walk nexts f x) ≡ on_walk nexts (get_or nexts j 0) q
  unfolding walk any_of on_walk row_from
  behind zero x j q l a e k = absurd (true_not_false (sym e))
  behind (suc f) zero j q l a e k = absurd (true_not_false (sym e))
  behind (suc f) (suc p) j q l a e k =
      let next = get_or nexts p 0 in
      let enough : 1 ≤ next → length nexts < f + next = λ h. omega (arith, a (omega arith), safe.rising p h) in
      ⊎_elim
      (λ (s : j ≡ p).
      rw (ne_eqb q (suc p) (λ z. omega arith), s)
      (ap (any_of (eqb q)) (steps_same f (length nexts) next (safe.inside p) enough (λ h. omega arith))))
      (λ (s : j ≡ p → ⊥).
      let on : any_of (eqb (suc j)) (walk nexts f next) ≡ true = rw (ne_eqb (suc j) (suc p) (λ z. s (omega arith))) at e in
      ⊎_elim
      (λ (u : suc j ≤ suc p).
      absurd (true_not_false (sym on ∙ early f next (suc j) (λ h. omega (arith, safe.rising p h)))))
      (λ (u : suc p < suc j). rw (ne_eqb q (suc p) (λ z. omega arith)) (behind f next j q (safe.inside p) enough on k))
      (le_or_lt (suc j) (suc p)))
      (eq_or_ne j p)

  module _ {hit : Cell → Bool} {i : ℕ} where
    next_walked : (j x : ℕ) → x ≤ length nexts → (1 ≤ x → j < x) → ((q : ℕ) → j < q → hit (cell i q) ≡ on_walk nexts x q)
        → NextMatch hit i (length nexts) j x
    unfolding on_walk row_from
    next_walked j zero l a same = none_left refl (λ q k m. same q k ∙ ap (any_of (eqb q)) (walk_zero nexts (length nexts)))
    next_walked j (suc p) l a same =
        next_is (a (omega arith)) l (same (suc p) (a (omega arith)) ∙ here (length nexts) p (omega arith))
        (λ q k m. same q k ∙ early (length nexts) (suc p) q (λ _. m))

    -- a row whose matches are the columns of its walk
    pub row_walked : {x : ℕ} → x ≤ length nexts → ((q : ℕ) → hit (cell i q) ≡ on_walk nexts x q) → RowWalk hit i (length nexts) x nexts
    unfolding on_walk row_from
    row_walked {x} l same = record {
      begins = next_walked 0 x l (λ h. h) (λ q _. same q);
      follows = λ j e. next_walked (suc j) (get_or nexts j 0) (safe.inside j) (safe.rising j)
          (λ q k. same q ∙ behind (length nexts) x j q l (λ h. omega arith) (sym (same (suc j)) ∙ e) k);
    }

-- a row has no more columns than there are
pub row_few : (nexts : List ℕ) (x : ℕ) → length (row_from nexts x) ≤ length nexts
unfolding row_from walk
row_few nexts x = go (length nexts) x
  where
    go : (n x : ℕ) → length (walk nexts n x) ≤ n
    go zero x = omega arith
    go (suc n) zero = omega arith
    go (suc n) (suc j) = omega (arith, go n (get_or nexts j 0))

pub row_none : (nexts : List ℕ) → row_from nexts 0 ≡ []
unfolding row_from
row_none nexts = walk_zero nexts (length nexts)

module _ {firsts nexts : List ℕ} (safe : WalkSafe firsts nexts) where
  -- THE THEOREM: the columns of each row's walk are matches that firsts and nexts describe
  pub safe_described : Described (walks_to firsts nexts) (length nexts) firsts nexts
  unfolding walks_to
  safe_described = record {
    rows = λ p l. row_walked (steps_safe safe.nexts_safe) (safe.starts p) (λ q. let back : suc p - 1 ≡ p = omega arith in rw back);
    narrow = safe.nexts_safe.few_columns;
  }

  -- one row more
  pub walked_next : (p : ℕ) → p < length firsts
      → length (walked_to firsts nexts (suc p)) ≡ length (walked_to firsts nexts p) + length (row_from nexts (get_or firsts p 0))
  unfolding walked_to matches_to row_from
  walked_next p l =
      let hit = walks_to firsts nexts in
      let row = walk_is_row (safe_described.rows p l) (length nexts) (omega arith) in
      omega (
        arith,
        length-append (matches_to hit (length nexts) p) (row_to hit (suc p) (length nexts)),
        ap length row,
        length-map (walk nexts (length nexts) (get_or firsts p 0)) (cell (suc p)),
      )

  pub walked_few : (rows : ℕ) → length (walked_to firsts nexts rows) ≤ rows * 16384
  unfolding walked_to
  walked_few rows =
      let m = mul-le-mul (le_refl rows) safe.nexts_safe.few_columns in
      omega (arith, few_matches (walks_to firsts nexts) (length nexts) rows)

  module _ {hit : Cell → Bool} {columns : ℕ} (d : Described hit columns firsts nexts) where
    same_row : (p : ℕ) → p < length firsts → row_to hit (suc p) columns ≡ row_to (walks_to firsts nexts) (suc p) (length nexts)
    same_row p l =
        sym (walk_is_row (d.rows p l) (columns + length nexts) (omega arith))
        ∙ walk_is_row (safe_described.rows p l) (columns + length nexts) (omega arith)

    -- and they are all that can be described
    pub described_same : (rows : ℕ) → rows ≤ length firsts → matches_to hit columns rows ≡ walked_to firsts nexts rows
    unfolding matches_to walked_to
    described_same zero l = refl
    described_same (suc p) l = rw (described_same p (omega arith), same_row p (omega arith))
