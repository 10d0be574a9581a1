-- Lists kept, counted, summed and laid out by tests that compute: the words in which the other files speak. Assumes nothing.
use Rattle.std.specs.Prelude.{Bool, false, cond, ◌||◌, List, [], ◌∷◌, ◌++◌, ℕ, zero, suc, ◌+◌, ◌-◌, max, eqb, length, replicate}
use Prim.Native.String.{String, len, char_at}
use Prim.Native.Char.{code}

-- the bytes of a quoted text from place i on, n of them
unfoldable pub text_from : String → ℕ → ℕ → List ℕ
text_from s i zero = []
text_from s i (suc n) = code (char_at s i) ∷ text_from s (suc i) n

-- the bytes of a quoted text, each in ASCII
unfoldable pub text : String → List ℕ
unfolding text_from
text s = text_from s 0 (len s)

-- where x first stands in a list whose first place is number n, or `missing`
unfoldable pub place_from : ℕ → ℕ → ℕ → List ℕ → ℕ
place_from n missing x [] = missing
place_from n missing x (y ∷ ys) = let r = place_from (suc n) missing x ys in cond (eqb x y) n r

-- the elements that pass a test, in order
unfoldable pub keep : {A : Type 0} → (A → Bool) → List A → List A
keep f [] = []
keep f (x ∷ xs) = let r = keep f xs in cond (f x) (x ∷ r) r

-- some element passes
unfoldable pub any_of : {A : Type 0} → (A → Bool) → List A → Bool
any_of f [] = false
any_of f (x ∷ xs) = f x || any_of f xs

-- how many pass
unfoldable pub count : {A : Type 0} → (A → Bool) → List A → ℕ
count f [] = 0
count f (x ∷ xs) = count f xs + cond (f x) 1 0

-- the sum of a number over a list
unfoldable pub sum_of : {A : Type 0} → (A → ℕ) → List A → ℕ
sum_of f [] = 0
sum_of f (x ∷ xs) = sum_of f xs + f x

-- over 1 to n: how many pass
unfoldable pub count_to : (ℕ → Bool) → ℕ → ℕ
count_to f zero = 0
count_to f (suc n) = count_to f n + cond (f (suc n)) 1 0

-- over 1 to n: the largest value, 0 where n is 0
unfoldable pub largest_to : (ℕ → ℕ) → ℕ → ℕ
largest_to f zero = 0
largest_to f (suc n) = max (largest_to f n) (f (suc n))

-- the largest of a number over a list, 0 where the list is empty
unfoldable pub largest_of : {A : Type 0} → (A → ℕ) → List A → ℕ
largest_of f [] = 0
largest_of f (x ∷ xs) = max (largest_of f xs) (f x)

-- what each element stands for, one after the other
unfoldable pub laid : {A B : Type 0} → (A → List B) → List A → List B
laid f [] = []
laid f (x ∷ xs) = f x ++ laid f xs

-- n numbers: xs from the front, and zeros after them
unfoldable pub then_zeros : List ℕ → ℕ → List ℕ
then_zeros xs n = xs ++ replicate (n - length xs) 0

-- a room of the same length, all zeros
unfoldable pub zeros : List ℕ → List ℕ
zeros room = replicate (length room) 0
