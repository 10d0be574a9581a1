-- What is picked is the predecessor in the paper's words, and so the start is the paper's; each is the only one. Assumes nothing.
use mathlib.Core.Path.{◌≡◌, refl, sym, ap, subst, subst⁻¹, ◌∙◌}
use mathlib.Core.Logic.{◌⊎◌, inl, inr}
use mathlib.Core.Bool.{Bool}
use mathlib.Core.Option.{Option, none, some}
use mathlib.Core.List.Memᴰ
use mathlib.Core.List.{List, [], ◌∷◌, ◌++◌, Memᴰ}
use mathlib.Core.List.{append-nil, append_assoc}
use Prim.Native.Nat.{ℕ, zero, suc, ◌≤◌}
use native.Mathlib.Nat.{le_refl, le_antisymm}
use native.Mathlib.Omega.{arith}
use lib.Arith.{le-zero}
use lib.Dec.{T}
use Rattle.rules.specs.Matches.{Cell}
use Rattle.rules.specs.Chains.{left_extension, Chain, one, more, Heaviest, Preferred, heavier, smaller_column, smaller_row, same_one}
use Rattle.rules.specs.Chains.{Predecessor, Start, itself, through}
use Rattle.rules.specs.Records.{Record, beats, consider, pick, record_after, record_of, records_from}
use Rattle.rules.specs.Listing.{Before, Ordered}
use Rattle.rules.proofs.Tests.{T_false, Three, three, below, equal, above}
use Rattle.rules.proofs.LeftExtensions.{same_cell_lem, not_self, not_after}
use Rattle.rules.proofs.Weights.{Sure, pick_sure, chain_hit, Right}
use Rattle.rules.proofs.Ties.{is_beats, Under, pick_first, by_weight, by_column, by_row}

-- records looked at one after the other, from the front: a scan and its step
pub pick_append : (b : ℕ) (c : Cell) (xs ys : List Record) (o : Option Record) → pick b c o (xs ++ ys) ≡ pick b c (pick b c o xs) ys
unfolding pick
pick_append b c [] ys o = refl
pick_append b c (x ∷ xs) ys o = pick_append b c xs ys (consider b c o x)

-- a match has one heaviest weight
pub heaviest_one : {b : ℕ} {hit : Cell → Bool} {y : Cell} {v w : ℕ} → Heaviest b hit y v → Heaviest b hit y w → v ≡ w
heaviest_one {v = v} {w = w} h g = le_antisymm (g.greatest h.first v h.reached) (h.greatest g.first w g.reached)

pub right_heaviest : {b : ℕ} {hit : Cell → Bool} {x : Record} → Right b hit x → Heaviest b hit x.cell x.weight
right_heaviest {x = x} r = record { first = x.start; reached = r.reached; greatest = r.greatest }

-- ---- a record goes by the records before it, and so by all of them

pick_none : (b : ℕ) (c : Cell) (ys : List Record) (o : Option Record) → ((y : Record) → Memᴰ y ys → ¬ T (left_extension b y.cell c)) → pick b c o ys ≡ o
unfolding pick
pick_none b c [] o h = refl
pick_none b c (y ∷ ys) o h = rw (T_false (left_extension b y.cell c) (h y (Memᴰ.head refl))) (pick_none b c ys o (λ z m. h z (Memᴰ.tail m)))

pub record_cell : (b : ℕ) (xs : List Record) (c : Cell) → (record_of b xs c).cell ≡ c
unfolding record_of record_after
record_cell b xs c = go (pick b c none xs)
  where
    go : (o : Option Record) → (record_after c o).cell ≡ c
    go none = refl
    go (some x) = refl

-- the records after acc are those of the matches, one for each
pub sweep_rest : (b : ℕ) (ys : List Cell) (acc : List Record)
    → (rest : List Record) × (records_from b acc ys ≡ acc ++ rest) × ((x : Record) → Memᴰ x rest → Memᴰ x.cell ys)
unfolding records_from
sweep_rest b [] acc = ([], sym (append-nil acc), λ x m. absurd (Memᴰ.not-nil m))
sweep_rest b (y ∷ ys) acc =
    let z = record_of b acc y in
    let (rest, e, f) = sweep_rest b ys (acc ++ (z ∷ [])) in
    (z ∷ rest, e ∙ append_assoc acc (z ∷ []) rest, λ x m. go rest f x (Memᴰ.cases_cons m))
  where
    go : (rest : List Record) → ((x : Record) → Memᴰ x rest → Memᴰ x.cell ys) → (x : Record) → (x ≡ record_of b acc y) ⊎ Memᴰ x rest
        → Memᴰ x.cell (y ∷ ys)
    go rest f x (inl q) = Memᴰ.head (ap (λ (w : Record). w.cell) q ∙ record_cell b acc y)
    go rest f x (inr m) = Memᴰ.tail (f x m)

-- the record that a match was given is its record over all records
given : (b : ℕ) (c : Cell) (cs : List Cell) (acc : List Record) → ((y : Cell) → Memᴰ y cs → Before c y)
    → record_of b acc c ≡ record_of b (records_from b (acc ++ (record_of b acc c ∷ [])) cs) c
unfolding record_of
given b c cs acc h =
    let z = record_of b acc c in
    let (rest, e, f) = sweep_rest b cs (acc ++ (z ∷ [])) in
    let self : ¬ T (left_extension b z.cell c) = λ t. not_self b c (subst (λ (w : Cell). T (left_extension b w c)) (record_cell b acc c) t) in
    let p1 : pick b c none (acc ++ (z ∷ [])) ≡ pick b c none acc =
    pick_append b c acc (z ∷ []) none
    ∙ pick_none b c (z ∷ []) (pick b c none acc)
    (λ y m t. self (subst (λ (w : Record). T (left_extension b w.cell c)) (Memᴰ.eq_of_singleton m) t)) in
    let p2 : pick b c none ((acc ++ (z ∷ [])) ++ rest) ≡ pick b c none acc =
    pick_append b c (acc ++ (z ∷ [])) rest none
    ∙ pick_none b c rest (pick b c none (acc ++ (z ∷ []))) (λ y m. not_after b c y.cell (h y.cell (f y m)))
    ∙ p1 in
    ap (record_after c) (sym p2) ∙ ap (λ (l : List Record). record_after c (pick b c none l)) (sym e)

-- each record is the record over all of them
pub sweep_fixed : (b : ℕ) (todo : List Cell) (acc : List Record) → Ordered todo → (x : Record) → Memᴰ x (records_from b acc todo)
    → Memᴰ x acc ⊎ (x ≡ record_of b (records_from b acc todo) x.cell)
unfolding records_from
sweep_fixed b [] acc o x m = inl m
sweep_fixed b (c ∷ cs) acc o x m = go (sweep_fixed b cs (acc ++ (record_of b acc c ∷ [])) o.1 x m)
  where
    all : List Record
    all = records_from b (acc ++ (record_of b acc c ∷ [])) cs

    last : Memᴰ x acc ⊎ Memᴰ x (record_of b acc c ∷ []) → Memᴰ x acc ⊎ (x ≡ record_of b all x.cell)
    last (inl n) = inl n
    last (inr n) =
        let q = Memᴰ.eq_of_singleton n in
        let k : x.cell ≡ c = ap (λ (w : Record). w.cell) q ∙ record_cell b acc c in
        inr (q ∙ given b c cs acc o.0 ∙ ap (record_of b all) (sym k))

    go : Memᴰ x (acc ++ (record_of b acc c ∷ [])) ⊎ (x ≡ record_of b all x.cell) → Memᴰ x acc ⊎ (x ≡ record_of b all x.cell)
    go (inl n) = last (Memᴰ.append_cases acc n)
    go (inr e) = inr e

-- ---- the paper's words

not_before : (x y : Record) → ¬ T (beats y x) → Preferred x.cell x.weight y.cell y.weight
not_before x y f = go (three y.weight x.weight) (three x.cell.column y.cell.column) (three x.cell.row y.cell.row)
  where
    go : Three y.weight x.weight → Three x.cell.column y.cell.column → Three x.cell.row y.cell.row
        → Preferred x.cell x.weight y.cell y.weight
    go (below h) p q = heavier h
    go (above h) p q = absurd (f (is_beats y x (by_weight h)))
    go (equal e) (below h) q = smaller_column e h
    go (equal e) (above h) q = absurd (f (is_beats y x (by_column e h)))
    go (equal e) (equal h) (below g) = smaller_row e h g
    go (equal e) (equal h) (equal g) = same_one g h
    go (equal e) (equal h) (above g) = absurd (f (is_beats y x (by_row e (sym h) g)))

chain_some : {b : ℕ} {hit : Cell → Bool} {p y : Cell} → ¬ Chain b hit p y 0
chain_some ch = go ch refl
  where
    go : {b : ℕ} {hit : Cell → Bool} {p y : Cell} {n : ℕ} → Chain b hit p y n → n ≡ 0 → ⊥
    go (one h) e = omega arith
    go (more c e h) q = omega arith

module _ (b : ℕ) (hit : Cell → Bool) (recs : List Record) (right : (x : Record) → Memᴰ x recs → Right b hit x)
    (found : (y : Cell) → T (hit y) → (x : Record) × Memᴰ x recs × (x.cell ≡ y))
    (fixed : (x : Record) → Memᴰ x recs → x ≡ record_of b recs x.cell) where
  -- what is picked for c is its predecessor
  picked_first : (c : Cell) (x : Record) → Memᴰ x recs → T (left_extension b x.cell c) → pick b c none recs ≡ some x → Predecessor b hit c x.cell
  picked_first c x m t e = record {
    is_a_match = chain_hit (right x m).reached;
    is_left = t;
    weight = x.weight;
    heaviest = right_heaviest (right x m);
    first = λ y v h k g.
        let (z, n, q) = found y h in
        let u : ¬ T (beats z x) = subst (Under z) e (pick_first b c z recs none n (subst⁻¹ (λ (w : Cell). T (left_extension b w c)) q k)) in
        let same : z.weight ≡ v = heaviest_one (subst (λ (w : Cell). Heaviest b hit w z.weight) q (right_heaviest (right z n))) g in
        subst (λ (w : Cell). Preferred x.cell x.weight w v) q
        (subst (λ (w : ℕ). Preferred x.cell x.weight z.cell w) same (not_before x z u));
  }

  start_to : (n : ℕ) (x : Record) → Memᴰ x recs → x.weight ≤ n → Start b hit x.cell x.start
  unfolding record_of record_after
  start_to zero x m l = absurd (chain_some (subst (λ (w : ℕ). Chain b hit x.start x.cell w) (le-zero l) (right x m).reached))
  start_to (suc n) x m l = go (λ y. start_to n y) (pick b c none recs) refl
    where
      c : Cell
      c = x.cell

      P : Record → Type 0
      P y = Memᴰ y recs × T (left_extension b y.cell c)

      is : (o : Option Record) → pick b c none recs ≡ o → x ≡ record_after c o
      is o e = fixed x m ∙ ap (record_after c) e

      go : ((y : Record) → Memᴰ y recs → y.weight ≤ n → Start b hit y.cell y.start)
          → (o : Option Record) → pick b c none recs ≡ o → Start b hit c x.start
      go ih none e =
          subst⁻¹ (Start b hit c) (ap (λ (w : Record). w.start) (is none e))
          (itself (λ y h t. let (z, k, q) = found y h in
          subst (Under z) e (pick_first b c z recs none k (subst⁻¹ (λ (w : Cell). T (left_extension b w c)) q t))))
      go ih (some y) e =
          let p : P y = subst (Sure P) e (pick_sure b c P recs none tt (λ z k t. (k, t))) in
          let w : x.weight ≡ suc y.weight = ap (λ (r : Record). r.weight) (is (some y) e) in
          subst⁻¹ (Start b hit c) (ap (λ (r : Record). r.start) (is (some y) e))
          (through (picked_first c y p.0 p.1 e) (ih y p.0 (omega arith)))

  -- every record has its match's start
  pub record_start : (x : Record) → Memᴰ x recs → Start b hit x.cell x.start
  record_start x m = start_to x.weight x m (le_refl _)

-- ---- each is the only one

pub predecessor_one : {b : ℕ} {hit : Cell → Bool} {c x y : Cell} → Predecessor b hit c x → Predecessor b hit c y → x ≡ y
predecessor_one {x = x} {y = y} p q =
    go (p.first y q.weight q.is_a_match q.is_left q.heaviest) (q.first x p.weight p.is_a_match p.is_left p.heaviest)
  where
    go : {v w : ℕ} → Preferred x v y w → Preferred y w x v → x ≡ y
    go (same_one er ec) k = same_cell_lem er ec
    go (heavier h) (heavier g) = absurd (omega arith)
    go (heavier h) (smaller_column e g) = absurd (omega arith)
    go (heavier h) (smaller_row e f g) = absurd (omega arith)
    go (heavier h) (same_one er ec) = same_cell_lem (sym er) (sym ec)
    go (smaller_column e h) (heavier g) = absurd (omega arith)
    go (smaller_column e h) (smaller_column d g) = absurd (omega arith)
    go (smaller_column e h) (smaller_row d f g) = absurd (omega arith)
    go (smaller_column e h) (same_one er ec) = same_cell_lem (sym er) (sym ec)
    go (smaller_row e f h) (heavier g) = absurd (omega arith)
    go (smaller_row e f h) (smaller_column d g) = absurd (omega arith)
    go (smaller_row e f h) (smaller_row d k g) = absurd (omega arith)
    go (smaller_row e f h) (same_one er ec) = same_cell_lem (sym er) (sym ec)

pub start_one : {b : ℕ} {hit : Cell → Bool} {c p q : Cell} → Start b hit c p → Start b hit c q → p ≡ q
start_one (itself n) (itself m) = refl
start_one (itself n) (through {x = x} f t) = absurd (n x f.is_a_match f.is_left)
start_one (through {x = x} f t) (itself n) = absurd (n x f.is_a_match f.is_left)
start_one {b} {hit} {q = q} (through f s) (through g t) = start_one s (subst⁻¹ (λ (x : Cell). Start b hit x q) (predecessor_one f g) t)
