-- What counting and summing over a list obey, each by recursion on it. Assumes nothing.
use mathlib.Core.Path.{◌≡◌, refl}
use mathlib.Core.Bool.{Bool, true, cond}
use mathlib.Core.List.{List, [], ◌∷◌, ◌++◌, Memᴰ}
use Prim.Native.Nat.{ℕ, ◌+◌}
use native.Mathlib.Omega.{arith}
use lib.ListN.{length}
use Rattle.rules.specs.Lists.{count, sum_of}
use Rattle.rules.proofs.ListLaws.{count_append}

pub count_same : {A : Type 0} (f g : A → Bool) (xs : List A) → ((x : A) → Memᴰ x xs → f x ≡ g x) → count f xs ≡ count g xs
unfolding count
count_same f g [] e = refl
count_same f g (x ∷ xs) e = rw (e x (Memᴰ.head refl), count_same f g xs (λ y m. e y (Memᴰ.tail m)))

pub count_all : {A : Type 0} (xs : List A) → count (λ _. true) xs ≡ length xs
unfolding count
count_all [] = refl
count_all (x ∷ xs) = omega (arith, count_all xs)

-- a test that passes what one or the other of two tests passes, and no element both
pub count_two : {A : Type 0} (f g h : A → Bool) (xs : List A) → ((x : A) → cond {A = ℕ} (f x) 1 0 ≡ cond {A = ℕ} (g x) 1 0 + cond {A = ℕ} (h x) 1 0)
    → count f xs ≡ count g xs + count h xs
unfolding count
count_two f g h [] e = refl
count_two f g h (x ∷ xs) e = omega (arith, count_two f g h xs e, e x)

pub count_snoc : {A : Type 0} (f : A → Bool) (xs : List A) (x : A) → count f (xs ++ (x ∷ [])) ≡ count f xs + cond (f x) 1 0
unfolding count
count_snoc f xs x = omega (arith, count_append f xs (x ∷ []))

pub sum_snoc : {A : Type 0} (f : A → ℕ) (xs : List A) (x : A) → sum_of f (xs ++ (x ∷ [])) ≡ sum_of f xs + f x
unfolding sum_of
sum_snoc f [] x = refl
sum_snoc f (y ∷ xs) x = omega (arith, sum_snoc f xs x)

pub sum_same : {A : Type 0} (f g : A → ℕ) (xs : List A) → ((x : A) → Memᴰ x xs → f x ≡ g x) → sum_of f xs ≡ sum_of g xs
unfolding sum_of
sum_same f g [] e = refl
sum_same f g (x ∷ xs) e = omega (arith, sum_same f g xs (λ y m. e y (Memᴰ.tail m)), e x (Memᴰ.head refl))
