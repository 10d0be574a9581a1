-- A slice held against the codes of a sequence: the keys, which are the codes of its numbers, and one turn of the check. Assumes nothing.
use Rattle.std.specs.Prelude.{◌≡◌, Bool, cond, ◌&&◌, ◌||◌, List, ℕ, ◌<◌, ◌≤◌, T, ltb, eqb, length, get_or}
use Rattle.rules.specs.Codes.{code_at}
use Rattle.requests.specs.Index.{index_of_codes, kmer_places, begins_with}

-- keys has the codes of the first n numbers of a slice; behind them it is as it was
pub record Keyed (codes index keys₀ keys : List ℕ) (n : ℕ) : Type 0 where
  pub long : length keys ≡ length keys₀
  pub key : (q : ℕ) → q < n → get_or keys q 0 ≡ code_at codes (get_or index q 0)
  pub others : (q : ℕ) → n ≤ q → get_or keys q 0 ≡ get_or keys₀ q 0

-- how many numbers of a slice are read where there should be n: all of them, and none of a slice that is too short
unfoldable pub numbers_read : ℕ → List ℕ → ℕ
numbers_read n index = cond (ltb (length index) n) 0 n

-- place p with code c goes on behind place `last` with code d: it has a k-mer, and stands behind by code, equal codes by place
unfoldable pub goes_on : ℕ → ℕ → ℕ → ℕ → Bool
goes_on d last c p = ltb 0 c && (ltb d c || (eqb d c && ltb last p))

-- the slice begins with the index of these codes, and keys with the codes of its numbers
pub record Indexed (codes index keys : List ℕ) : Type 0 where
  pub begins : T (begins_with (index_of_codes codes) index)
  pub long : kmer_places codes ≤ length keys
  pub key : (q : ℕ) → q < kmer_places codes → get_or keys q 0 ≡ code_at codes (get_or index q 0)
