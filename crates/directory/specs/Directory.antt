-- Keys that rise, in buckets by their leading bits, and where a code would stand among them. Assumes nothing.
use Rattle.std.specs.Prelude.{◌≡◌, Bool, true, false, cond, List, ℕ, zero, suc, ◌+◌, ◌/◌, ◌%◌, ◌^◌, ◌<◌, ◌≤◌, eqb, length, get_or, set}

-- the bucket of a code: what is left of it without so many low bits, the last sixteen bits of that
unfoldable pub bucket_of : ℕ → ℕ → ℕ
bucket_of low code = code / 2 ^ low % 65536

-- where each bucket ends, after the first n keys: one past the last key in it
unfoldable pub ends_to : ℕ → List ℕ → List ℕ → ℕ → List ℕ
unfolding bucket_of
ends_to low keys ends zero = ends
ends_to low keys ends (suc n) = set (ends_to low keys ends n) (bucket_of low (get_or keys n 0)) (suc n)

-- the first n keys do not fall
pub record Rising (keys : List ℕ) (n : ℕ) : Type 0 where
  pub rise : (p q : ℕ) → p ≤ q → q < n → get_or keys p 0 ≤ get_or keys q 0

-- every one of the first n keys lies before the end of its bucket
pub record Bucketed (low : ℕ) (keys ends : List ℕ) (n : ℕ) : Type 0 where
  pub wide : length ends ≡ 65536
  pub upto : (b : ℕ) → get_or ends b 0 ≤ n
  pub to : (q : ℕ) → q < n → q < get_or ends (bucket_of low (get_or keys q 0)) 0

-- no key before begin is as large as c
pub record Reached (keys : List ℕ) (end c begin : ℕ) : Type 0 where
  pub upto : begin ≤ end
  pub below : (q : ℕ) → q < begin → get_or keys q 0 < c

-- of the keys from begin to end those before lo are below c, and those from hi on are not
pub record Lower (keys : List ℕ) (begin end c lo hi : ℕ) : Type 0 where
  pub after : begin ≤ lo
  pub within : lo ≤ hi
  pub upto : hi ≤ end
  pub low : (q : ℕ) → begin ≤ q → q < lo → get_or keys q 0 < c
  pub high : (q : ℕ) → hi ≤ q → q < end → c ≤ get_or keys q 0

-- whether code c stands at an index
pub record Near (second : List ℕ) (near c : ℕ) (r : Bool) : Type 0 where
  pub there : r ≡ true → (near < length second) × (get_or second near 0 ≡ c)
  pub elsewhere : r ≡ false → near < length second → get_or second near 0 ≡ c → ⊥

-- where to look first for the next row's
unfoldable pub next_near : ℕ → ℕ → ℕ
next_near near owner = cond (eqb owner 0) (near + 1) owner
