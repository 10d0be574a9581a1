-- What each step promises. Everything is done by owner, a column that stands for its code. Assumes nothing.
use Rattle.std.specs.Prelude.{◌≡◌, cond, List, ℕ, suc, ◌+◌, ◌-◌, ◌<◌, ◌≤◌, min, leb, get_or, length}
use Rattle.order.specs.Counts.{count_in}

pub record Zeros (l : List ℕ) : Type 0 where
  pub zeros : (p : ℕ) → get_or l p 0 ≡ 0

-- each of the first n numbers of l is at most m
pub record Upto (l : List ℕ) (n m : ℕ) : Type 0 where
  pub upto : (p : ℕ) → p < n → get_or l p 0 ≤ m

-- one more, unless the count has passed a
unfoldable pub count_on : ℕ → ℕ → ℕ
count_on a v = cond (leb v a) (v + 1) v

-- count has s q more at each index q, until it has passed a: a + 1 stands for every count above a
pub record Summed (s : ℕ → ℕ) (a : ℕ) (count₀ count : List ℕ) : Type 0 where
  pub long : length count ≡ length count₀
  pub each : (q : ℕ) → q < length count → get_or count q 0 ≡ min (get_or count₀ q 0 + s q) (a + 1)

-- so for the first n places: index q has one more for each that is owned by column q + 1
pub record Tallied (own : List ℕ) (n a : ℕ) (count₀ count : List ℕ) : Type 0 where
  pub sums : Summed (λ q. count_in own (suc q) n) a count₀ count

-- each of the first n numbers is what f says, and the others are as they were
pub record Rewritten (f : ℕ → ℕ) (l₀ l : List ℕ) (n : ℕ) : Type 0 where
  pub long : length l ≡ length l₀
  pub each : (p : ℕ) → p < n → get_or l p 0 ≡ f p
  pub others : (p : ℕ) → n ≤ p → get_or l p 0 ≡ get_or l₀ p 0

-- a number, and 0 where its count is above a
unfoldable pub unless_above : ℕ → ℕ → ℕ → ℕ
unless_above a m e = cond (leb m a) e 0

-- an owner whose count, with the rows before it, has passed a is 0
unfoldable pub struck_at : List ℕ → ℕ → List ℕ → ℕ → ℕ
unfolding count_in unless_above
struck_at count a firsts p = let e = get_or firsts p 0 in unless_above a (get_or count (e - 1) 0 + count_in firsts e p) e

pub record Struck (count : List ℕ) (a : ℕ) (firsts₀ firsts : List ℕ) (n : ℕ) : Type 0 where
  pub rows : Rewritten (struck_at count a firsts₀) firsts₀ firsts n

-- an owner whose count is above a is 0
unfoldable pub capped_at : List ℕ → ℕ → List ℕ → ℕ → ℕ
unfolding unless_above
capped_at count a firsts p = let e = get_or firsts p 0 in unless_above a (get_or count (e - 1) 0) e

pub record Capped (count : List ℕ) (a : ℕ) (firsts₀ firsts : List ℕ) (n : ℕ) : Type 0 where
  pub rows : Rewritten (capped_at count a firsts₀) firsts₀ firsts n

-- from one count to a later one no k-mer passes a
pub record NonePasses (a : ℕ) (count₀ count : List ℕ) : Type 0 where
  pub passed_before : (q : ℕ) → a < get_or count q 0 → a < get_or count₀ q 0

-- and one does, known by its owner's index
pub record OnePasses (a : ℕ) (count₀ count : List ℕ) : Type 0 where
  pub index : ℕ
  pub not_before : get_or count₀ index 0 ≤ a
  pub after : a < get_or count index 0
