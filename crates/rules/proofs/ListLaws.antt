-- What searching, keeping, counting, summing, taking the largest and laying out obey, each by recursion on the list or the number. Assumes nothing.
use mathlib.Core.Path.{◌≡◌, refl, sym, ap, subst, subst⁻¹, ◌∙◌}
use mathlib.Core.Logic.{◌⊎◌, inl, inr}
use mathlib.Core.Bool.{Bool, true, false, cond}
use mathlib.Core.List.Memᴰ
use mathlib.Core.List.{List, [], ◌∷◌, ◌++◌, map, Memᴰ, append-nil, append_assoc}
use Prim.Native.Nat.{ℕ, zero, suc, ◌+◌, ◌*◌, ◌≤◌, ◌<◌, zero-le, max}
use native.Mathlib.Nat.{add-zero, le_trans, le_of_suc-le-suc, not-suc-le-zero}
use native.Mathlib.Omega.{arith}
use lib.Dec.{T, eqb}
use lib.ListN.{length, get_or, take, drop, replicate, length-append, take-append-drop, get_or-append}
use lib.Seq.{get_or-append-add}
use Rattle.rules.specs.Lists.{place_from, keep, count, sum_of, count_to, largest_to, largest_of, laid}
use Rattle.rules.proofs.Tests.{tests, by_test, tested, to_suc, T_true, T_false}

-- a list that has no member
pub empty : {A : Type 0} (xs : List A) → ((x : A) → Memᴰ x xs → ⊥) → xs ≡ []
empty [] h = refl
empty (x ∷ xs) h = absurd (h x (Memᴰ.head refl))

-- what stands at a place is a member
pub mem_at : {A : Type 0} (xs : List A) (g : ℕ) (d : A) → g < length xs → Memᴰ (get_or xs g d) xs
mem_at [] g d h = absurd (not-suc-le-zero h)
mem_at (x ∷ xs) zero d h = Memᴰ.head refl
mem_at (x ∷ xs) (suc g) d h = Memᴰ.tail (mem_at xs g d (le_of_suc-le-suc h))

-- zeros are 0 everywhere, and beyond their end too
pub zeros_at : (n q : ℕ) → get_or {A = ℕ} (replicate n 0) q 0 ≡ 0
zeros_at zero q = refl
zeros_at (suc n) zero = refl
zeros_at (suc n) (suc q) = zeros_at n q

-- what a search in a list finds: nothing, or the place of x
pub data Placed (n missing x : ℕ) (ys : List ℕ) (r : ℕ) : Type 0 where
  not_there : r ≡ missing → Placed n missing x ys r
  there : (p : ℕ) → r ≡ n + p → p < length ys → get_or ys p 0 ≡ x → Placed n missing x ys r

pub placed : (n missing x : ℕ) (ys : List ℕ) → Placed n missing x ys (place_from n missing x ys)
unfolding place_from
placed n missing x [] = not_there refl
placed n missing x (y ∷ ys) =
    by_test (Placed n missing x (y ∷ ys)) (eqb x y) n (place_from (suc n) missing x ys)
    (λ t. there 0 (sym (add-zero n)) (omega arith) (sym (simp tests at t))) (λ _. later (placed (suc n) missing x ys))
  where
    later : {r : ℕ} → Placed (suc n) missing x ys r → Placed n missing x (y ∷ ys) r
    later (not_there e) = not_there e
    later (there p e l h) = there (suc p) (omega arith) (omega arith) h

pub keep_append : {A : Type 0} (f : A → Bool) (xs ys : List A) → keep f (xs ++ ys) ≡ keep f xs ++ keep f ys
unfolding keep
keep_append f [] ys = refl
keep_append {A} f (x ∷ xs) ys = go (f x) (keep_append f xs ys)
  where
    go : (t : Bool) → keep f (xs ++ ys) ≡ keep f xs ++ keep f ys
        → cond {A = List A} t (x ∷ keep f (xs ++ ys)) (keep f (xs ++ ys)) ≡ cond {A = List A} t (x ∷ keep f xs) (keep f xs) ++ keep f ys
    go true e = ap {B = List A} (λ l. x ∷ l) e
    go false e = e

pub keep_none : {A : Type 0} (f : A → Bool) (xs : List A) → ((x : A) → Memᴰ x xs → ¬ T (f x)) → keep f xs ≡ []
unfolding keep
keep_none f [] h = refl
keep_none f (x ∷ xs) h = rw (T_false (f x) (h x (Memᴰ.head refl))) (keep_none f xs (λ y m. h y (Memᴰ.tail m)))

pub keep_all : {A : Type 0} (f : A → Bool) (xs : List A) → ((x : A) → Memᴰ x xs → T (f x)) → keep f xs ≡ xs
unfolding keep
keep_all {A} f [] h = refl
keep_all {A} f (x ∷ xs) h =
    rw (T_true (f x) (h x (Memᴰ.head refl))) (ap {B = List A} (λ l. x ∷ l) (keep_all f xs (λ y m. h y (Memᴰ.tail m))))

-- where the narrower test passes only what the wider one passes, the wider one before it changes nothing
pub keep_narrower : {A : Type 0} (f g : A → Bool) (xs : List A) → ((x : A) → T (f x) → T (g x)) → keep f (keep g xs) ≡ keep f xs
unfolding keep
keep_narrower f g [] h = refl
keep_narrower {A} f g (x ∷ xs) h =
    by_test (λ (l : List A). keep f l ≡ keep f (x ∷ xs)) (g x) (x ∷ keep g xs) (keep g xs)
    (λ _. ap (λ (r : List A). cond (f x) (x ∷ r) r) (keep_narrower f g xs h))
    (λ n. rw (T_false (f x) (λ t. n (h x t))) (keep_narrower f g xs h))

pub count_keep : {A : Type 0} (f : A → Bool) (xs : List A) → count f xs ≡ length (keep f xs)
unfolding keep count
count_keep f [] = refl
count_keep {A} f (x ∷ xs) = go (f x) (count_keep f xs)
  where
    go : (t : Bool) → count f xs ≡ length (keep f xs) → count f xs + cond t 1 0 ≡ length (cond {A = List A} t (x ∷ keep f xs) (keep f xs))
    go true e = omega arith
    go false e = omega arith

pub count_map : {A B : Type 0} (f : B → Bool) (g : A → B) (xs : List A) → count f (map g xs) ≡ count (λ x. f (g x)) xs
unfolding count
count_map f g [] = refl
count_map f g (x ∷ xs) = ap (λ (n : ℕ). n + cond (f (g x)) 1 0) (count_map f g xs)

pub largest_to_ge : (f : ℕ → ℕ) (n k : ℕ) → 1 ≤ k → k ≤ n → f k ≤ largest_to f n
unfolding largest_to
largest_to_ge f zero k h g = absurd (omega arith)
largest_to_ge f (suc n) k h g = go (to_suc k n g) (λ l. largest_to_ge f n k h l)
  where
    go : (k ≤ n) ⊎ (k ≡ suc n) → (k ≤ n → f k ≤ largest_to f n) → f k ≤ max (largest_to f n) (f (suc n))
    go (inl l) ih = omega (arith, ih l)
    go (inr e) ih = omega (arith, ap f e)

pub count_to_mono : (f g : ℕ → Bool) (n : ℕ) → ((i : ℕ) → T (f i) → T (g i)) → count_to f n ≤ count_to g n
unfolding count_to
count_to_mono f g zero h = zero-le
count_to_mono f g (suc n) h = go (f (suc n)) (g (suc n)) (h (suc n)) (count_to_mono f g n h)
  where
    go : (u v : Bool) → (T u → T v) → count_to f n ≤ count_to g n → count_to f n + cond u 1 0 ≤ count_to g n + cond v 1 0
    go false v k e = omega arith
    go true true k e = omega arith
    go true false k e = absurd (k tt)

pub count_to_hit : (f : ℕ → Bool) (n i : ℕ) → 1 ≤ i → i ≤ n → T (f i) → 1 ≤ count_to f n
unfolding count_to
count_to_hit f zero i p q t = absurd (not-suc-le-zero (le_trans p q))
count_to_hit f (suc n) i p q t = go (to_suc i n q) (λ l. count_to_hit f n i p l t)
  where
    go : (i ≤ n) ⊎ (i ≡ suc n) → (i ≤ n → 1 ≤ count_to f n) → 1 ≤ count_to f n + cond (f (suc n)) 1 0
    go (inl l) ih = omega (arith, ih l)
    go (inr e) ih = by_test (λ (m : ℕ). 1 ≤ count_to f n + m) (f (suc n)) 1 0 (λ _. omega arith) (λ k. absurd (k (subst (λ (m : ℕ). T (f m)) e t)))

-- nothing is counted, or something passes
pub count_to_some : (f : ℕ → Bool) (n : ℕ) → (count_to f n ≡ 0) ⊎ ((i : ℕ) × T (f i))
unfolding count_to
count_to_some f zero = inl refl
count_to_some f (suc n) = go (count_to_some f n) (tested (f (suc n)))
  where
    go : (count_to f n ≡ 0) ⊎ ((i : ℕ) × T (f i)) → T (f (suc n)) ⊎ (¬ T (f (suc n))) → (count_to f n + cond (f (suc n)) 1 0 ≡ 0) ⊎ ((i : ℕ) × T (f i))
    go e (inl t) = inr (suc n, t)
    go (inr e) (inr k) = inr e
    go (inl e) (inr k) = inl (by_test (λ (m : ℕ). count_to f n + m ≡ 0) (f (suc n)) 1 0 (λ t. absurd (k t)) (λ _. omega arith))

pub largest_to_le : (f : ℕ → ℕ) (m n : ℕ) → ((i : ℕ) → f i ≤ m) → largest_to f n ≤ m
unfolding largest_to
largest_to_le f m zero h = zero-le
largest_to_le f m (suc n) h = omega (arith, largest_to_le f m n h, h (suc n))

module _ {A : Type 0} (f : A → Bool) where
  pub count_append : (xs ys : List A) → count f (xs ++ ys) ≡ count f xs + count f ys
  unfolding count
  count_append [] ys = omega arith
  count_append (x ∷ xs) ys = omega (arith, count_append xs ys)

  pub count_length : (xs : List A) → count f xs ≤ length xs
  unfolding count
  count_length [] = zero-le
  count_length (x ∷ xs) = by_test (λ (m : ℕ). count f xs + m ≤ suc (length xs)) (f x) 1 0 (λ _. omega (arith, count_length xs))
      (λ _. omega (arith, count_length xs))

  pub count_none : (xs : List A) → ((x : A) → Memᴰ x xs → ¬ T (f x)) → count f xs ≡ 0
  unfolding count
  count_none [] h = refl
  count_none (x ∷ xs) h =
      by_test (λ (m : ℕ). count f xs + m ≡ 0) (f x) 1 0 (λ t. absurd (h x (Memᴰ.head refl) t))
      (λ _. omega (arith, count_none xs (λ y m. h y (Memᴰ.tail m))))

-- a test that says less counts no fewer
tally_le : (p q : ℕ) (u v : Bool) → (T u → T v) → p ≤ q → p + cond u 1 0 ≤ q + cond v 1 0
tally_le p q false v h e = omega arith
tally_le p q true true h e = omega arith
tally_le p q true false h e = absurd (h tt)

pub count_mono : {A : Type 0} (f g : A → Bool) (xs : List A) → ((x : A) → T (f x) → T (g x)) → count f xs ≤ count g xs
unfolding count
count_mono f g [] h = zero-le
count_mono f g (x ∷ xs) h = tally_le (count f xs) (count g xs) (f x) (g x) (h x) (count_mono f g xs h)

-- and one more where one more passes
pub count_more : {A : Type 0} (f g : A → Bool) (z : A) (xs : List A) → ((x : A) → T (f x) → T (g x)) → ¬ T (f z) → T (g z) → Memᴰ z xs
    → suc (count f xs) ≤ count g xs
unfolding count
count_more {A} f g z xs h k l (Memᴰ.head {x = y} {xs = ys} e) =
    go (f y) (g y) (λ t. k (subst⁻¹ (λ (w : A). T (f w)) e t)) (subst (λ (w : A). T (g w)) e l) (count_mono f g ys h)
  where
    go : (u v : Bool) → ¬ T u → T v → count f ys ≤ count g ys → suc (count f ys + cond u 1 0) ≤ count g ys + cond v 1 0
    go true v n t e' = absurd (n tt)
    go false true n t e' = omega arith
    go false false n t e' = absurd t
count_more f g z xs h k l (Memᴰ.tail {x = y} {xs = ys} m) =
    omega (arith, tally_le (suc (count f ys)) (count g ys) (f y) (g y) (h y) (count_more f g z ys h k l m))

pub sum_of_le : {A : Type 0} (f : A → ℕ) (n : ℕ) (xs : List A) → ((x : A) → Memᴰ x xs → f x ≤ n) → sum_of f xs ≤ length xs * n
unfolding sum_of
sum_of_le f n [] h = zero-le
sum_of_le f n (x ∷ xs) h = omega (arith, h x (Memᴰ.head refl), sum_of_le f n xs (λ y m. h y (Memᴰ.tail m)))

pub sum_of_times : {A : Type 0} (f g : A → ℕ) (n : ℕ) (xs : List A) → ((x : A) → f x ≤ g x * n) → sum_of f xs ≤ sum_of g xs * n
unfolding sum_of
sum_of_times f g n [] h = zero-le
sum_of_times f g n (x ∷ xs) h = let a = sum_of_times f g n xs h in let b = h x in omega arith

pub largest_of_le : {A : Type 0} (f : A → ℕ) (m : ℕ) (xs : List A) → ((x : A) → f x ≤ m) → largest_of f xs ≤ m
unfolding largest_of
largest_of_le f m [] h = zero-le
largest_of_le f m (x ∷ xs) h = let a = largest_of_le f m xs h in let b = h x in omega arith

pub largest_of_ge : {A : Type 0} (f : A → ℕ) (x : A) (xs : List A) → Memᴰ x xs → f x ≤ largest_of f xs
unfolding largest_of
largest_of_ge {A} f x xs (Memᴰ.head {x = y} {xs = ys} e) = subst (λ (z : A). f z ≤ max (largest_of f ys) (f y)) (sym e) (omega arith)
largest_of_ge f x xs (Memᴰ.tail {x = y} {xs = ys} m) = let a = largest_of_ge f x ys m in omega arith

pub count_to_same : (f g : ℕ → Bool) (n : ℕ) → ((i : ℕ) → f i ≡ g i) → count_to f n ≡ count_to g n
unfolding count_to
count_to_same f g zero h = refl
count_to_same f g (suc n) h = rw (count_to_same f g n h, h (suc n))

-- what the elements of a mapped list stand for
pub laid_map : {A B C : Type 0} (f : A → B) (g : B → List C) (xs : List A) → laid g (map f xs) ≡ laid (λ x. g (f x)) xs
unfolding laid
laid_map f g [] = refl
laid_map {C = C} f g (x ∷ xs) = ap {B = List C} (λ l. g (f x) ++ l) (laid_map f g xs)

-- an element of a list laid out comes from one that was laid out
pub laid_in : {A B : Type 0} (g : A → List B) (xs : List A) (y : B) → Memᴰ y (laid g xs) → (x : A) × Memᴰ x xs × Memᴰ y (g x)
unfolding laid
laid_in g [] y m = absurd (Memᴰ.not-nil m)
laid_in {A} {B} g (x ∷ xs) y m = go (Memᴰ.append_cases (g x) m) (laid_in g xs y)
  where
    go : Memᴰ y (g x) ⊎ Memᴰ y (laid g xs) → (Memᴰ y (laid g xs) → (z : A) × Memᴰ z xs × Memᴰ y (g z))
        → (z : A) × Memᴰ z (x ∷ xs) × Memᴰ y (g z)
    go (inl n) ih = (x, Memᴰ.head refl, n)
    go (inr n) ih = let r = ih n in (r.0, Memᴰ.tail r.1, r.2)

pub laid_few : {A B : Type 0} (g : A → List B) (n : ℕ) (xs : List A) → ((x : A) → length (g x) ≤ n) → length (laid g xs) ≤ length xs * n
unfolding laid
laid_few g n [] h = zero-le
laid_few g n (x ∷ xs) h = omega (arith, length-append (g x) (laid g xs), h x, laid_few g n xs h)

-- ---- elements laid out in numbers, n for each

module _ {A : Type 0} (f : A → List ℕ) where
  pub laid_append : (xs ys : List A) → laid f (xs ++ ys) ≡ laid f xs ++ laid f ys
  unfolding laid
  laid_append [] ys = refl
  laid_append (x ∷ xs) ys = ap {B = List ℕ} (λ l. f x ++ l) (laid_append xs ys) ∙ sym (append_assoc (f x) (laid f xs) (laid f ys))

  -- one more goes behind
  pub laid_snoc : (xs : List A) (x : A) → laid f (xs ++ (x ∷ [])) ≡ laid f xs ++ f x
  unfolding laid
  laid_snoc xs x = laid_append xs (x ∷ []) ∙ ap {B = List ℕ} (λ l. laid f xs ++ l) (append-nil (f x))

  module _ (n : ℕ) (size : (x : A) → length (f x) ≡ n) where
    pub laid_length : (xs : List A) → length (laid f xs) ≡ length xs * n
    unfolding laid
    laid_length [] = omega arith
    laid_length (x ∷ xs) = omega (arith, length-append (f x) (laid f xs), size x, laid_length xs)

    -- number r of element i
    pub laid_at : (xs : List A) (i r : ℕ) (d : A) → i < length xs → r < n → get_or (laid f xs) (i * n + r) 0 ≡ get_or (f (get_or xs i d)) r 0
    unfolding laid
    laid_at [] i r d h g = absurd (not-suc-le-zero h)
    laid_at (x ∷ xs) zero r d h g =
        let e : 0 * n + r ≡ r = omega arith in
        let l : r < length (f x) = omega (arith, size x) in
        rw e (get_or-append (f x) (laid f xs) 0 r l)
    laid_at (x ∷ xs) (suc i) r d h g =
        let e : suc i * n + r ≡ length (f x) + (i * n + r) = omega (arith, size x) in
        rw e (get_or-append-add (f x) (laid f xs) (i * n + r) 0 ∙ laid_at xs i r d (le_of_suc-le-suc h) g)

-- where the first n do not pass and the rest do, what is kept is the rest
pub keep_rest : {A : Type 0} (f : A → Bool) (xs : List A) (n : ℕ) → ((x : A) → Memᴰ x (take n xs) → ¬ T (f x))
    → ((x : A) → Memᴰ x (drop n xs) → T (f x)) → keep f xs ≡ drop n xs
keep_rest {A} f xs n h g =
    ap (keep f) (sym (take-append-drop n xs)) ∙ keep_append f (take n xs) (drop n xs)
    ∙ ap {B = List A} (λ l. l ++ keep f (drop n xs)) (keep_none f (take n xs) h) ∙ keep_all f (drop n xs) g
