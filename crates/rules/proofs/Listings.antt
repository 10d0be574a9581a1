-- The listing and the stopped room hold exactly the matches that the paper says, each once and in order: they keep the records that pass a test,
-- and the records are in order. Assumes nothing.
use mathlib.Core.Path.{◌≡◌, refl, subst, subst⁻¹}
use mathlib.Core.Logic.{◌⊎◌, inl, inr, ◌↔◌}
use mathlib.Core.Bool.{Bool, not}
use mathlib.Core.List.Memᴰ
use mathlib.Core.List.{List, [], ◌∷◌, map, Memᴰ}
use Prim.Native.Nat.{ℕ, ◌≤◌}
use native.Mathlib.Omega.{arith}
use lib.Dec.{T}
use Rattle.rules.specs.declared.Settings.{Settings}
use Rattle.rules.specs.Lists.{keep, any_of}
use Rattle.rules.specs.Places.{places}
use Rattle.rules.specs.Matches.{Cell, is_match, matches}
use Rattle.rules.specs.Chains.{left_extension, Heaviest, Start, Closed}
use Rattle.rules.specs.Records.{Record, records}
use Rattle.rules.specs.Listing.{closed, first_span, second_span, long_enough, is_listed, listing, ends, Listed, Before, Ordered}
use Rattle.rules.specs.Rooms.{in_run, held, Held}
use Rattle.rules.proofs.Tests.{tests, T_and, T_leb, by_test, tested}
use Rattle.rules.proofs.MatchList.{ordered_map, Inside, matches_ordered}
use Rattle.rules.proofs.Weights.{chain_hit}
use Rattle.rules.proofs.Starts.{heaviest_one, start_one}
use Rattle.rules.proofs.Jobs.{match_in, match_has, match_inside, record_cells, record_has, weight_heaviest, start_right}

-- ---- what is kept, and what some element passes

pub keep_in : {A : Type 0} (f : A → Bool) (xs : List A) (x : A) → Memᴰ x (keep f xs) → Memᴰ x xs × T (f x)
unfolding keep
keep_in f [] x m = absurd (Memᴰ.not-nil m)
keep_in {A} f (y ∷ ys) x m =
    by_test (λ (l : List A). Memᴰ x l → Memᴰ x (y ∷ ys) × T (f x)) (f y) (y ∷ keep f ys) (keep f ys)
    (λ t n. go t (Memᴰ.cases_cons n) (keep_in f ys x)) (λ _ n. let h = keep_in f ys x n in (Memᴰ.tail h.0, h.1)) m
  where
    go : T (f y) → (x ≡ y) ⊎ Memᴰ x (keep f ys) → (Memᴰ x (keep f ys) → Memᴰ x ys × T (f x)) → Memᴰ x (y ∷ ys) × T (f x)
    go t (inl e) ih = (Memᴰ.head e, subst⁻¹ (λ (z : A). T (f z)) e t)
    go t (inr n) ih = let h = ih n in (Memᴰ.tail h.0, h.1)

pub keep_has : {A : Type 0} (f : A → Bool) (x : A) (xs : List A) → Memᴰ x xs → T (f x) → Memᴰ x (keep f xs)
unfolding keep
keep_has {A} f x xs (Memᴰ.head {x = y} {xs = ys} e) t =
    by_test (λ (l : List A). Memᴰ x l) (f y) (y ∷ keep f ys) (keep f ys) (λ _. Memᴰ.head e) (λ n. absurd (n (subst (λ (z : A). T (f z)) e t)))
keep_has {A} f x xs (Memᴰ.tail {x = y} {xs = ys} m) t =
    by_test (λ (l : List A). Memᴰ x l) (f y) (y ∷ keep f ys) (keep f ys) (λ _. Memᴰ.tail (keep_has f x ys m t)) (λ _. keep_has f x ys m t)

pub any_has : {A : Type 0} (f : A → Bool) (x : A) (xs : List A) → Memᴰ x xs → T (f x) → T (any_of f xs)
unfolding any_of
any_has {A} f x xs (Memᴰ.head {x = y} {xs = ys} e) t = simp tests (λ n. absurd (n (subst (λ (z : A). T (f z)) e t)))
any_has f x xs (Memᴰ.tail {x = y} {xs = ys} m) t = simp tests (λ _. any_has f x ys m t)

pub any_some : {A : Type 0} (f : A → Bool) (xs : List A) → T (any_of f xs) → (x : A) × Memᴰ x xs × T (f x)
unfolding any_of
any_some f [] t = absurd t
any_some {A} f (y ∷ ys) t = go (tested (f y)) (any_some f ys)
  where
    go : T (f y) ⊎ (¬ T (f y)) → (T (any_of f ys) → (x : A) × Memᴰ x ys × T (f x)) → (x : A) × Memᴰ x (y ∷ ys) × T (f x)
    go (inl p) ih = (y, Memᴰ.head refl, p)
    go (inr n) ih =
        let h = simp tests at t in
        let r = ih (h n) in
        (r.0, Memᴰ.tail r.1, r.2)

-- ---- order

-- what is kept of a list in order is in order
keep_ordered : (f : Record → Bool) (xs : List Record) → Ordered (map (λ (x : Record). x.cell) xs) → Ordered (map (λ (x : Record). x.cell) (keep f xs))
unfolding keep
keep_ordered f [] o = tt
keep_ordered f (x ∷ xs) o =
    by_test (λ (l : List Record). Ordered (map (λ (r : Record). r.cell) l)) (f x) (x ∷ keep f xs) (keep f xs)
    (λ _. (λ y m. o.0 y (inside y m), keep_ordered f xs o.1)) (λ _. keep_ordered f xs o.1)
  where
    inside : (y : Cell) → Memᴰ y (map (λ (r : Record). r.cell) (keep f xs)) → Memᴰ y (map (λ (r : Record). r.cell) xs)
    inside y m =
        let (r, n, e) = Memᴰ.of_map (λ (r : Record). r.cell) (keep f xs) m in
        subst (λ (z : Cell). Memᴰ z (map (λ (r : Record). r.cell) xs)) e (Memᴰ.map (λ (r : Record). r.cell) (keep_in f xs r n).0)

-- ends stand as their matches do
ends_before : (k : ℕ) (x y : Cell) → 1 ≤ x.row → 1 ≤ x.column → 1 ≤ y.row → Before x y → Before (ends k x) (ends k y)
unfolding ends
ends_before k x y p q r h =
    record { row_le = omega (arith, h.row_le); column_lt = λ e. omega (arith, h.column_lt (omega (arith, h.row_le))) }

-- ---- the listing of a job

module _ (c : Settings) (s t : List ℕ) where
  -- the test for closed is the paper's
  pub closed_is : (y : Cell) → T (closed c.b (matches c s t) y) ↔ Closed c.b (is_match c s t) y
  unfolding closed
  closed_is y = (forth, back)
    where
      forth : T (not (any_of (left_extension c.b y) (matches c s t))) → Closed c.b (is_match c s t) y
      forth u =
          let none : ¬ T (any_of (left_extension c.b y) (matches c s t)) = simp tests at u in
          record { no_match = λ z h e. none (any_has (left_extension c.b y) z (matches c s t) (match_has c s t z h) e) }

      back : Closed c.b (is_match c s t) y → T (not (any_of (left_extension c.b y) (matches c s t)))
      back h =
          simp tests (λ u. let (z, m, e) = any_some (left_extension c.b y) (matches c s t) u in
          h.no_match z (match_in c s t z m) e)

  is_listed_lem : (x : Record) → T (is_listed c (matches c s t) x)
      ↔ (Closed c.b (is_match c s t) x.cell × (c.m ≤ first_span c.k x.start x.cell) × (c.m ≤ second_span c.k x.start x.cell))
  unfolding is_listed long_enough
  is_listed_lem x = (
    λ u. let h = simp (T_and, T_leb) at u in
        ((closed_is x.cell).0 h.0, h.1.0, h.1.1),
    λ h. simp (T_and, T_leb) ((closed_is x.cell).1 h.0, (h.1, h.2)),
  )

  -- the record of a match is the one with its heaviest weight and its start
  record_is : (y p : Cell) (w : ℕ) → T (is_match c s t y) → Heaviest c.b (is_match c s t) y w → Start c.b (is_match c s t) y p
      → Memᴰ (record { cell = y; weight = w; start = p }) (records c s t)
  record_is y p w h g f =
      let (x, m, e) = record_has c s t y h in
      let ew : x.weight ≡ w = heaviest_one (subst (λ (z : Cell). Heaviest c.b (is_match c s t) z x.weight) e (weight_heaviest c s t x m)) g in
      let ep : x.start ≡ p = start_one (subst (λ (z : Cell). Start c.b (is_match c s t) z x.start) e (start_right c s t x m)) f in
      let same : x ≡ record { cell = y; weight = w; start = p } = λ i. record { cell = e i; weight = ew i; start = ep i } in
      subst (λ (r : Record). Memᴰ r (records c s t)) same m

  records_ordered : Ordered (map (λ (x : Record). x.cell) (records c s t))
  unfolding matches
  records_ordered = subst⁻¹ Ordered (record_cells c s t) (matches_ordered (is_match c s t) (places c.k t) (places c.k s))

  -- what the listing holds is listed in the paper's words, and the other way round
  pub listing_in : (x : Record) → Memᴰ x (listing c s t) → Listed c s t x.cell x.start x.weight
  unfolding listing
  listing_in x m =
      let (n, u) = keep_in (is_listed c (matches c s t)) (records c s t) x m in
      let h = (is_listed_lem x).0 u in
      let w = weight_heaviest c s t x n in
      record {
        is_a_match = chain_hit w.reached;
        is_closed = h.0;
        weight = w;
        start = start_right c s t x n;
        first_enough = h.1;
        second_enough = h.2;
      }

  pub listing_has : (y p : Cell) (w : ℕ) → Listed c s t y p w → Memᴰ (record { cell = y; weight = w; start = p }) (listing c s t)
  unfolding listing
  listing_has y p w h =
      keep_has (is_listed c (matches c s t)) (record { cell = y; weight = w; start = p }) (records c s t)
      (record_is y p w h.is_a_match h.weight h.start)
      ((is_listed_lem (record { cell = y; weight = w; start = p })).1 (h.is_closed, h.first_enough, h.second_enough))

  -- by end row, then end column, as numbers, and each once
  pub listing_ordered : Ordered (map (λ (x : Record). ends c.k x.cell) (listing c s t))
  unfolding listing
  listing_ordered =
      ordered_map (λ (x : Record). x.cell) (λ (x : Record). ends c.k x.cell) (listing c s t)
      (λ x y mx my. let h = inside x mx in ends_before c.k x.cell y.cell h.row_from h.column_from (inside y my).row_from)
      (keep_ordered (is_listed c (matches c s t)) (records c s t) records_ordered)
    where
      inside : (x : Record) → Memᴰ x (listing c s t) → Inside (is_match c s t) (places c.k t) (places c.k s) x.cell
      inside x m = match_inside c s t x.cell (listing_in x m).is_a_match

  -- ---- the stopped room

  module _ (r : ℕ) where
    pub held_in : (x : Record) → Memᴰ x (held c s t r) → Held c s t r x.cell x.start x.weight
    unfolding held in_run
    held_in x m =
        let (n, u) = keep_in (λ (z : Record). in_run c.b r z.cell) (records c s t) x m in
        let h = simp (in_run, tests) at u in
        let w = weight_heaviest c s t x n in
        record { is_a_match = chain_hit w.reached; from = h.0; to = h.1; weight = w; start = start_right c s t x n }

    pub held_has : (y p : Cell) (w : ℕ) → Held c s t r y p w → Memᴰ (record { cell = y; weight = w; start = p }) (held c s t r)
    unfolding held in_run
    held_has y p w h =
        keep_has (λ (z : Record). in_run c.b r z.cell) (record { cell = y; weight = w; start = p }) (records c s t)
        (record_is y p w h.is_a_match h.weight h.start) (simp (in_run, tests) (h.from, h.to))

    pub held_ordered : Ordered (map (λ (x : Record). x.cell) (held c s t r))
    unfolding held
    held_ordered = keep_ordered (λ (z : Record). in_run c.b r z.cell) (records c s t) records_ordered
