-- A record's weight is its match's heaviest: a chain from its start has it, and no chain that ends there has more, by induction over the matches
-- in order, since every left extension of a match stands before it. Assumes nothing.
use mathlib.Core.Path.{◌≡◌, refl, sym, ap, subst, subst⁻¹, ◌∙◌}
use mathlib.Core.Logic.{◌⊎◌, inl, inr}
use mathlib.Core.Bool.{Bool, cond}
use mathlib.Core.Option.{Option, none, some}
use mathlib.Core.List.Memᴰ
use mathlib.Core.List.{List, [], ◌∷◌, ◌++◌, map, Memᴰ}
use mathlib.Core.List.{append-nil, append_assoc, map-append}
use Prim.Native.Nat.{ℕ, suc, ◌+◌, ◌≤◌, ◌<◌, zero-le, suc-le-suc}
use native.Mathlib.Nat.{le_refl, le_of_eq, le_trans}
use native.Mathlib.Omega.{arith}
use lib.Dec.{T}
use Rattle.rules.specs.Matches.{Cell}
use Rattle.rules.specs.Chains.{left_extension, Chain, one, more}
use Rattle.rules.specs.Records.{Record, beats, better, pick, record_after, record_of, records_from}
use Rattle.rules.specs.Listing.{Ordered}
use Rattle.rules.proofs.Tests.{tests, by_test}
use Rattle.rules.proofs.LeftExtensions.{extend_facts, not_self, not_after}

beats_le : (x y : Record) → T (beats x y) → y.weight ≤ x.weight
unfolding beats
beats_le x y t =
    let h = simp (beats, tests) at t in
    let k : ¬ (x.weight < y.weight) = λ g. omega (arith, (h (omega arith)).0) in
    omega arith

unbeaten_le : (x y : Record) → ¬ T (beats x y) → x.weight ≤ y.weight
unfolding beats
unbeaten_le x y f =
    let g = simp (beats, tests) at f in
    let k : ¬ (y.weight < x.weight) = λ h. g (λ n. absurd (n h)) in
    omega arith

-- the weight of what was picked; 0 where nothing was
abbrev heavy : Option Record → ℕ
heavy none = 0
heavy (some x) = x.weight

abbrev pub Sure : (Record → Type 0) → Option Record → Type 0
Sure P none = Unit {0}
Sure P (some x) = P x

pub better_sure : (P : Record → Type 0) (o : Option Record) (x : Record) → Sure P o → P x → Sure P (better o x)
unfolding better
better_sure P none x s p = p
better_sure P (some y) x s p = by_test (Sure P) (beats x y) (some x) (some y) (λ _. p) (λ _. s)

better_heavy : (o : Option Record) (x : Record) → (heavy o ≤ heavy (better o x)) × (x.weight ≤ heavy (better o x))
unfolding better
better_heavy none x = (zero-le, le_refl _)
better_heavy (some y) x =
    by_test (λ (r : Option Record). (y.weight ≤ heavy r) × (x.weight ≤ heavy r)) (beats x y) (some x) (some y)
    (λ t. (beats_le x y t, le_refl _)) (λ f. (le_refl _, unbeaten_le x y f))

-- ---- the one picked

module _ (b : ℕ) (c : Cell) where
  pub pick_sure : (P : Record → Type 0) (xs : List Record) (o : Option Record) → Sure P o
      → ((x : Record) → Memᴰ x xs → T (left_extension b x.cell c) → P x) → Sure P (pick b c o xs)
  unfolding pick
  pick_sure P [] o s h = s
  pick_sure P (x ∷ xs) o s h =
      pick_sure P xs (cond (left_extension b x.cell c) (better o x) o)
      (by_test (Sure P) (left_extension b x.cell c) (better o x) o (λ t. better_sure P o x s (h x (Memᴰ.head refl) t)) (λ _. s))
      (λ y m t. h y (Memᴰ.tail m) t)

  pick_keeps : (xs : List Record) (o : Option Record) → heavy o ≤ heavy (pick b c o xs)
  unfolding pick
  pick_keeps [] o = le_refl _
  pick_keeps (x ∷ xs) o =
      le_trans
      (by_test (λ (r : Option Record). heavy o ≤ heavy r) (left_extension b x.cell c) (better o x) o (λ _. (better_heavy o x).0) (λ _. le_refl _))
      (pick_keeps xs (cond (left_extension b x.cell c) (better o x) o))

  pick_heavy : (x : Record) (xs : List Record) (o : Option Record) → Memᴰ x xs → T (left_extension b x.cell c) → x.weight ≤ heavy (pick b c o xs)
  unfolding pick
  pick_heavy x xs o (Memᴰ.head {x = y} {xs = ys} e) t =
      le_trans
      (by_test (λ (r : Option Record). x.weight ≤ heavy r) (left_extension b y.cell c) (better o y) o
      (λ _. le_trans (le_of_eq (ap (λ (z : Record). z.weight) e)) (better_heavy o y).1)
      (λ f. absurd (f (subst (λ (z : Record). T (left_extension b z.cell c)) e t))))
      (pick_keeps ys (cond (left_extension b y.cell c) (better o y) o))
  pick_heavy x xs o (Memᴰ.tail {x = y} {xs = ys} m) t = pick_heavy x ys (cond (left_extension b y.cell c) (better o y) o) m t

-- ---- the record of the next match

-- the last match of a chain is a match, and so is its first
pub chain_hit : {b : ℕ} {hit : Cell → Bool} {p y : Cell} {n : ℕ} → Chain b hit p y n → T (hit y)
chain_hit (one h) = h
chain_hit (more ch e h) = h

pub chain_first : {b : ℕ} {hit : Cell → Bool} {p y : Cell} {n : ℕ} → Chain b hit p y n → T (hit p)
chain_first (one h) = h
chain_first (more ch e h) = chain_first ch

-- a chain goes down and to the right, by at least one a match
pub record Grown (p y : Cell) (n : ℕ) : Type 0 where
  pub rows : p.row ≤ y.row
  pub columns : p.column ≤ y.column
  pub weight : n + p.row + p.column ≤ y.row + y.column + 1

pub chain_grown : {b : ℕ} {hit : Cell → Bool} {p y : Cell} {n : ℕ} → Chain b hit p y n → Grown p y n
chain_grown (one h) = record { rows = omega arith; columns = omega arith; weight = omega arith }
chain_grown {b} (more {x = x} {y = y} c l h) =
    let g = chain_grown c in
    let e = extend_facts b x y l in
    record {
      rows = (let r = g.rows in let q = e.row_le in omega arith);
      columns = (let r = g.columns in let q = e.column_le in omega arith);
      weight = (let r = g.weight in let q = e.moved in omega arith);
    }

-- a record is right: a chain from its start has its weight, and no chain that ends at its cell has more
pub record Right (b : ℕ) (hit : Cell → Bool) (x : Record) : Type 0 where
  pub reached : Chain b hit x.start x.cell x.weight
  pub greatest : (p : Cell) (n : ℕ) → Chain b hit p x.cell n → n ≤ x.weight

module _ (b : ℕ) (hit : Cell → Bool) where
  -- the records hold every match before c that can extend it
  abbrev Holds : List Record → Cell → Type 0
  Holds xs c = (y : Cell) → T (hit y) → T (left_extension b y c) → (x : Record) × Memᴰ x xs × (x.cell ≡ y)

  after_reached : (c : Cell) → T (hit c) → (o : Option Record) → Sure (λ x. Chain b hit x.start c (suc x.weight)) o
      → Chain b hit (record_after c o).start (record_after c o).cell (record_after c o).weight
  unfolding record_after
  after_reached c h none s = one h
  after_reached c h (some x) s = s

  after_weight : (c : Cell) (o : Option Record) → (record_after c o).weight ≡ suc (heavy o)
  unfolding record_after
  after_weight c none = refl
  after_weight c (some x) = refl

  after_cell : (c : Cell) (o : Option Record) → (record_after c o).cell ≡ c
  unfolding record_after
  after_cell c none = refl
  after_cell c (some x) = refl

  record_greatest : (xs : List Record) (c : Cell) → ((x : Record) → Memᴰ x xs → Right b hit x) → Holds xs c
      → (p : Cell) (n : ℕ) → Chain b hit p c n → n ≤ suc (heavy (pick b c none xs))
  record_greatest xs c r f p n (one h) = suc-le-suc zero-le
  record_greatest xs c r f p n (more {x = y} {n = k} ch e h) =
      let (z, m, q) = f y (chain_hit ch) e in
      suc-le-suc (le_trans ((r z m).greatest p k (subst⁻¹ (λ (w : Cell). Chain b hit p w k) q ch))
      (pick_heavy b c z xs none m (subst⁻¹ (λ (w : Cell). T (left_extension b w c)) q e)))

  record_right : (xs : List Record) (c : Cell) → T (hit c) → ((x : Record) → Memᴰ x xs → Right b hit x) → Holds xs c
      → Right b hit (record_of b xs c)
  unfolding record_of
  record_right xs c h r f =
      record {
        reached =
            after_reached c h (pick b c none xs)
            (pick_sure b c (λ x. Chain b hit x.start c (suc x.weight)) xs none tt (λ x m t. more (r x m).reached t h));
        greatest = λ p n ch.
            subst⁻¹ (λ (w : ℕ). n ≤ w) (after_weight c (pick b c none xs))
            (record_greatest xs c r f p n (subst (λ (y : Cell). Chain b hit p y n) (after_cell c (pick b c none xs)) ch));
      }

module _ (b : ℕ) (hit : Cell → Bool) where
  abbrev Found : List Record → Cell → Type 0
  Found xs y = (x : Record) × Memᴰ x xs × (x.cell ≡ y)

  found_more : {xs : List Record} {y : Cell} (z : Record) → Found xs y → Found (xs ++ (z ∷ [])) y
  found_more z f = (f.0, Memᴰ.append_left (z ∷ []) f.1, f.2)

  record_cell : (xs : List Record) (c : Cell) → (record_of b xs c).cell ≡ c
  unfolding record_of
  record_cell xs c = after_cell b hit c (pick b c none xs)

  pub sweep_right : (todo : List Cell) (acc : List Record) → ((x : Record) → Memᴰ x acc → Right b hit x)
      → ((y : Cell) → T (hit y) → Found acc y ⊎ Memᴰ y todo)
      → ((y : Cell) → Memᴰ y todo → T (hit y))
      → Ordered todo
      → (x : Record) → Memᴰ x (records_from b acc todo) → Right b hit x
  unfolding records_from
  sweep_right [] acc r f hs o = r
  sweep_right (c ∷ cs) acc r f hs o =
      sweep_right cs (acc ++ (z ∷ [])) right' found' (λ y m. hs y (Memᴰ.tail m)) o.1
    where
      z : Record
      z = record_of b acc c

      later : (y : Cell) → T (left_extension b y c) → (y ≡ c) ⊎ Memᴰ y cs → ⊥
      later y e (inl q) = not_self b c (subst (λ (w : Cell). T (left_extension b w c)) q e)
      later y e (inr m) = not_after b c y (o.0 y m) e

      holds : (y : Cell) → T (left_extension b y c) → Found acc y ⊎ Memᴰ y (c ∷ cs) → Found acc y
      holds y e (inl g) = g
      holds y e (inr m) = absurd (later y e (Memᴰ.cases_cons m))

      now : Right b hit z
      now = record_right b hit acc c (hs c (Memᴰ.head refl)) r (λ y h e. holds y e (f y h))

      right_at : (x : Record) → Memᴰ x acc ⊎ Memᴰ x (z ∷ []) → Right b hit x
      right_at x (inl m) = r x m
      right_at x (inr m) = subst⁻¹ (Right b hit) (Memᴰ.eq_of_singleton m) now

      right' : (x : Record) → Memᴰ x (acc ++ (z ∷ [])) → Right b hit x
      right' x m = right_at x (Memᴰ.append_cases acc m)

      found_at : (y : Cell) → (y ≡ c) ⊎ Memᴰ y cs → Found (acc ++ (z ∷ [])) y ⊎ Memᴰ y cs
      found_at y (inl q) = inl (z, Memᴰ.append_right acc (Memᴰ.head refl), record_cell acc c ∙ sym q)
      found_at y (inr m) = inr m

      found_in : (y : Cell) → Found acc y ⊎ Memᴰ y (c ∷ cs) → Found (acc ++ (z ∷ [])) y ⊎ Memᴰ y cs
      found_in y (inl g) = inl (found_more z g)
      found_in y (inr m) = found_at y (Memᴰ.cases_cons m)

      found' : (y : Cell) → T (hit y) → Found (acc ++ (z ∷ [])) y ⊎ Memᴰ y cs
      found' y h = found_in y (f y h)

  -- each match has its record, in order
  pub sweep_cells : (todo : List Cell) (acc : List Record) → map (λ (x : Record). x.cell) (records_from b acc todo) ≡ map (λ (x : Record). x.cell) acc ++ todo
  unfolding records_from
  sweep_cells [] acc = sym (append-nil _)
  sweep_cells (c ∷ cs) acc =
      sweep_cells cs (acc ++ (record_of b acc c ∷ [])) ∙ simp (map-append, append_assoc, record_cell)

  -- one more match, one more record, over those before it: the step of a loop
  pub sweep_snoc : (cs : List Cell) (c : Cell) (acc : List Record)
      → records_from b acc (cs ++ (c ∷ [])) ≡ records_from b acc cs ++ (record_of b (records_from b acc cs) c ∷ [])
  unfolding records_from
  sweep_snoc [] c acc = refl
  sweep_snoc (x ∷ xs) c acc = sweep_snoc xs c (acc ++ (record_of b acc x ∷ []))
