-- W and the link total are bounded: a row has at most a - 1 matches, and only b + 1 rows and columns count. Assumes nothing.
use mathlib.Core.Path.{◌≡◌, refl, ap, subst, subst⁻¹}
use mathlib.Core.Logic.{◌⊎◌, inl, inr}
use mathlib.Core.Bool.{Bool, true, false, cond, ◌&&◌}
use mathlib.Core.Option.{Option}
use mathlib.Core.List.{List, [], ◌∷◌, Memᴰ}
use Prim.Native.Nat.{ℕ, zero, suc, ◌+◌, ◌-◌, ◌*◌, ◌≤◌, zero-le, min}
use native.Mathlib.Nat.{le_of_eq, le_trans, mul-le-mul_left}
use native.Mathlib.Omega.{arith}
use lib.Dec.{T, leb}
use lib.ListN.{length, length-append}
use Rattle.rules.specs.declared.Settings.{Settings}
use Rattle.rules.specs.Lists.{count, count_to, sum_of}
use Rattle.rules.specs.Places.{places, kmer_at, same_kmer, total}
use Rattle.rules.specs.Matches.{Cell, cell, is_match, row_to, matches_to, matches}
use Rattle.rules.specs.Chains.{left_extension}
use Rattle.rules.specs.Rooms.{in_run, largest_run, pairs, work_need, link_total}
use Rattle.rules.proofs.Tests.{tests, by_test, tested}
use Rattle.rules.proofs.ListLaws.{empty, count_to_mono, count_to_hit, count_to_some, largest_to_le, count_append, count_length, count_none}
use Rattle.rules.proofs.ListLaws.{count_more, sum_of_le}
use Rattle.rules.proofs.LeftExtensions.{extend_facts, not_self}
use Rattle.rules.proofs.MatchList.{Inside, row_in, row_has}
use Rattle.rules.proofs.Kmers.{kmer_place, same_sym, same_self}
use Rattle.rules.proofs.Jobs.{match_facts, match_inside, match_in}

-- ---- a row

pub row_length : (hit : Cell → Bool) (i j : ℕ) → length (row_to hit i j) ≡ count_to (λ k. hit (cell i k)) j
unfolding row_to count_to
row_length hit i zero = refl
row_length hit i (suc j) =
    let c = cell i (suc j) in
    omega (arith, length-append (row_to hit i j) (cond (hit c) (c ∷ []) []), row_length hit i j, one_more c (hit c))
  where
    one_more : (c : Cell) (t : Bool) → length (cond {A = List Cell} t (c ∷ []) []) ≡ cond t 1 0
    one_more c true = refl
    one_more c false = refl

-- no more matches than cells
count_to_lem : (f : ℕ → Bool) (n : ℕ) → count_to f n ≤ n
unfolding count_to
count_to_lem f zero = omega arith
count_to_lem f (suc n) = by_test (λ (m : ℕ). count_to f n + m ≤ suc n) (f (suc n)) 1 0 (λ _. omega (arith, count_to_lem f n)) (λ _. omega (arith, count_to_lem f n))

pub few_matches : (hit : Cell → Bool) (columns n : ℕ) → length (matches_to hit columns n) ≤ n * columns
unfolding matches_to
few_matches hit columns zero = omega arith
few_matches hit columns (suc n) =
    omega (
      arith,
      length-append (matches_to hit columns n) (row_to hit (suc n) columns),
      few_matches hit columns n,
      row_length hit (suc n) columns,
      count_to_lem (λ k. hit (cell (suc n) k)) columns,
    )

-- ---- rows max(1, i - b) to i of the rows 1 to n, and so for columns

rows_to : ℕ → ℕ → ℕ → ℕ
rows_to b i n = min (suc n) (suc i) - (i - b)

rows_suc : (b i n : ℕ) → i - b ≤ suc n → suc n ≤ i → rows_to b i (suc n) ≡ suc (rows_to b i n)
unfolding rows_to
rows_suc b i n h g = omega arith

rows_mono : (b i n : ℕ) → rows_to b i n ≤ rows_to b i (suc n)
unfolding rows_to
rows_mono b i n = omega arith

rows_all : (b i n : ℕ) → rows_to b i n ≤ suc b
unfolding rows_to
rows_all b i n = omega arith

-- what stands between i - b and i, or does not
near : (b i n : ℕ) → ((i - b ≤ n) × (n ≤ i)) ⊎ (¬ ((i - b ≤ n) × (n ≤ i)))
near b i n = go (tested (leb (i - b) n && leb n i))
  where
    go : T (leb (i - b) n && leb n i) ⊎ (¬ T (leb (i - b) n && leb n i)) → ((i - b ≤ n) × (n ≤ i)) ⊎ (¬ ((i - b ≤ n) × (n ≤ i)))
    go (inl t) = inl (simp tests at t)
    go (inr f) = inr (simp tests at f)

-- a test that only cells of rows i - b to i pass, and few of each row
module _ (hit : Cell → Bool) (columns : ℕ) (f : Cell → Bool) (most b i : ℕ) (few : (n : ℕ) → count f (row_to hit n columns) ≤ most)
    (only : (y : Cell) → T (f y) → (i - b ≤ y.row) × (y.row ≤ i)) where
  box_to : (n : ℕ) → count f (matches_to hit columns n) ≤ most * rows_to b i n
  unfolding matches_to count
  box_to zero = zero-le
  box_to (suc n) =
      le_trans (le_of_eq (count_append f (matches_to hit columns n) (row_to hit (suc n) columns))) (go (few (suc n)) (near b i (suc n)) (box_to n))
    where
      here : ℕ
      here = count f (row_to hit (suc n) columns)

      go : here ≤ most → ((i - b ≤ suc n) × (suc n ≤ i)) ⊎ (¬ ((i - b ≤ suc n) × (suc n ≤ i))) → count f (matches_to hit columns n) ≤ most * rows_to b i n
          → count f (matches_to hit columns n) + here ≤ most * rows_to b i (suc n)
      go l (inl h) ih = rw (rows_suc b i n h.0 h.1) (omega arith)
      go l (inr k) ih =
          let e : here ≡ 0 =
          count_none f (row_to hit (suc n) columns) (λ y m t.
          k (subst (λ (r : ℕ). (i - b ≤ r) × (r ≤ i)) (row_in hit (suc n) columns y m).row_is (only y t))) in
          omega (arith, mul-le-mul_left most (rows_mono b i n))

  pub box_most : (n : ℕ) → count f (matches_to hit columns n) ≤ most * suc b
  box_most n = le_trans (box_to n) (mul-le-mul_left most (rows_all b i n))

-- a test that only cells of columns j - b to j pass: at most b + 1 of a row
module _ (hit : Cell → Bool) (f : Cell → Bool) (b j i : ℕ) (only : (y : Cell) → T (f y) → (j - b ≤ y.column) × (y.column ≤ j)) where
  cols_to : (m : ℕ) → count f (row_to hit i m) ≤ rows_to b j m
  unfolding row_to count
  cols_to zero = zero-le
  cols_to (suc m) =
      le_trans (le_of_eq (count_append f (row_to hit i m) (cond (hit (cell i (suc m))) (cell i (suc m) ∷ []) [])))
      (go (hit (cell i (suc m))) (near b j (suc m)) (cols_to m))
    where
      c : Cell
      c = cell i (suc m)

      go : (t : Bool) → ((j - b ≤ suc m) × (suc m ≤ j)) ⊎ (¬ ((j - b ≤ suc m) × (suc m ≤ j))) → count f (row_to hit i m) ≤ rows_to b j m
          → count f (row_to hit i m) + count f (cond {A = List Cell} t (c ∷ []) []) ≤ rows_to b j (suc m)
      go false k ih = omega (arith, rows_mono b j m)
      go true (inl h) ih = omega (arith, rows_suc b j m h.0 h.1, count_length f (c ∷ []))
      go true (inr k) ih =
          by_test (λ (n : ℕ). count f (row_to hit i m) + (0 + n) ≤ rows_to b j (suc m)) (f c) 1 0 (λ t. absurd (k (only c t)))
          (λ _. omega (arith, rows_mono b j m))

  pub cols_most : (m : ℕ) → count f (row_to hit i m) ≤ suc b
  cols_most m = le_trans (cols_to m) (rows_all b j m)

-- ---- a job

module _ (c : Settings) (s t : List ℕ) where
  -- a row has at most a - 1 matches: its own place is one of its k-mer's occurrences
  pub row_few : (i : ℕ) → length (row_to (is_match c s t) i (places c.k t)) ≤ c.a - 1
  unfolding total
  row_few i = subst⁻¹ (λ (n : ℕ). n ≤ c.a - 1) (row_length (is_match c s t) i columns) (go (count_to_some (λ j. is_match c s t (cell i j)) columns))
    where
      columns : ℕ
      columns = places c.k t

      rows : ℕ
      rows = places c.k s

      x : Option (List ℕ)
      x = kmer_at c.k s i

      go : (count_to (λ j. is_match c s t (cell i j)) columns ≡ 0) ⊎ ((j : ℕ) × T (is_match c s t (cell i j)))
          → count_to (λ j. is_match c s t (cell i j)) columns ≤ c.a - 1
      go (inl e) = omega arith
      go (inr h) =
          let (j, m) = h in
          let f = match_facts c s t (cell i j) m in
          let z = kmer_at c.k t j in
          let r = kmer_place c.k s i z f.0 in
          let own = count_to_hit (λ p. same_kmer (kmer_at c.k s p) x) rows i r.0 r.1 (same_self x z f.0) in
          let rest =
          count_to_mono (λ q. is_match c s t (cell i q)) (λ q. same_kmer (kmer_at c.k t q) x) columns
          (λ q k. same_sym x (kmer_at c.k t q) (match_facts c s t (cell i q) k).0) in
          omega (arith, f.1, own, rest)

  pub W_bound : work_need c s t ≤ (c.b + 1) * (c.a - 1)
  unfolding work_need largest_run matches in_run
  W_bound =
      largest_to_le (λ i. count (in_run c.b i) (matches c s t)) ((c.b + 1) * (c.a - 1)) (places c.k s) (λ i.
      omega (
        arith,
        box_most (is_match c s t) (places c.k t) (in_run c.b i) (c.a - 1) c.b i
            (λ n. le_trans (count_length (in_run c.b i) (row_to (is_match c s t) n (places c.k t))) (row_few n))
            (λ y h. let g = simp (in_run, tests) at h in (omega arith, omega arith)) (places c.k s),
      ))

-- a list with a member has a length
member_length : {A : Type 0} {x : A} (xs : List A) → Memᴰ x xs → 1 ≤ length xs
member_length xs (Memᴰ.head e) = omega arith
member_length xs (Memᴰ.tail m) = omega arith

-- ---- the link total

-- within b rows and columns, and not beyond
in_box : ℕ → Cell → Cell → Bool
in_box b y x = leb (y.row - b) x.row && leb x.row y.row && leb (y.column - b) x.column && leb x.column y.column

module _ (c : Settings) (s t : List ℕ) where
  -- a match has at most (b + 1) min(a - 1, b + 1) - 1 left extensions: with itself, what its box holds
  left_few : (y : Cell) → Memᴰ y (matches c s t) → count (λ x. left_extension c.b x y) (matches c s t) ≤ (c.b + 1) * min (c.a - 1) (c.b + 1) - 1
  unfolding matches in_box
  left_few y m =
      let b = c.b in
      let box = in_box b y in
      let hit = is_match c s t in
      let columns = places c.k t in
      let few : (n : ℕ) → count box (row_to hit n columns) ≤ min (c.a - 1) (c.b + 1) = λ n.
      let p = le_trans (count_length box (row_to hit n columns)) (row_few c s t n) in
      let q = cols_most hit box b y.column n (λ x u. let g = simp (in_box, tests) at u in (omega arith, omega arith)) columns in
      omega arith in
      let all = box_most hit columns box (min (c.a - 1) (c.b + 1)) b y.row few (λ x u. let g = simp (in_box, tests) at u in (omega arith, omega arith))
      (places c.k s) in
      let one =
      count_more (λ x. left_extension b x y) box y (matches c s t)
      (λ x u. let g = extend_facts b x y u in simp (in_box, tests) (omega arith)) (not_self b y) (simp (in_box, tests) (omega arith)) m in
      omega arith

  pub links_bound : link_total c s t ≤ length (matches c s t) * ((c.b + 1) * min (c.a - 1) (c.b + 1) - 1)
  unfolding link_total pairs
  links_bound = sum_of_le (λ y. count (λ x. left_extension c.b x y) (matches c s t)) _ (matches c s t) left_few

  -- with a 1 there is no match: a row would have one at least, and has at most a - 1
  pub no_matches : c.a ≡ 1 → matches c s t ≡ []
  no_matches e = empty (matches c s t) (λ y m. none_in y.row y.column (match_inside c s t y (match_in c s t y m)))
    where
      none_in : (i j : ℕ) → Inside (is_match c s t) (places c.k t) (places c.k s) (cell i j) → ⊥
      none_in i j h =
          omega (
            arith,
            row_few c s t i,
            member_length (row_to (is_match c s t) i (places c.k t))
                (row_has (is_match c s t) i (places c.k t) j h.is_hit h.column_from h.column_until),
          )

  pub no_links : c.a ≡ 1 → link_total c s t ≡ 0
  unfolding link_total pairs sum_of
  no_links e = ap (pairs c.b) (no_matches e)
