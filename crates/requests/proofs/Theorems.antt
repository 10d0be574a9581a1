-- THE THEOREMS about the definitions of this crate: the column index (CR 6). Each is proved in the file that its line cites. Assumes nothing.
use mathlib.Core.Path.{◌≡◌}
use mathlib.Core.Logic.{◌↔◌}
use mathlib.Core.Bool.{cond}
use mathlib.Core.Option.{some}
use mathlib.Core.List.{List, [], ◌++◌}
use Prim.Native.Nat.{ℕ, suc, ◌+◌, ◌≤◌, ◌<◌}
use lib.ListN.{length, take}
use Rattle.rules.specs.declared.Settings.{Settings}
use Rattle.rules.specs.Letters.{reverse_complement}
use Rattle.rules.specs.Places.{places, kmer_at, packed}
use Rattle.rules.specs.Matches.{cell, is_match}
use Rattle.rules.specs.Codes.{codes, code_at}
use Rattle.rules.specs.Answers.{Outcome, left, refusal, after_checks, compared, stopped}
use Rattle.requests.specs.Index.{kmer_places, codes_of, index_of, IsIndex, built_index, indexed, swept_over, compared_over, stopped_over}
use Rattle.requests.proofs.Mirror.{mirrored_at}
use Rattle.requests.proofs.Index.{index_one}
use Rattle.requests.proofs.OverIndex.{code_packed, code_kmer, sequence_index, sequence_places, compared_same, stopped_same, rest_ignored, over_in_order, built_then_swept}

-- ---- the index

-- "one for each place that has a k-mer: places ordered by packed code, equal codes by place", and no other list is that
pub index_exact : (k mask : ℕ) (second : List ℕ) → IsIndex (codes_of k mask second) (index_of k mask second)
index_exact = sequence_index

pub one_index : (k mask : ℕ) (second index : List ℕ) → IsIndex (codes_of k mask second) index → index ≡ index_of k mask second
one_index k mask second index h = index_one (codes_of k mask second) index (index_of k mask second) h (sequence_index k mask second)

pub index_places : (k mask : ℕ) (second : List ℕ) → length (index_of k mask second) ≡ kmer_places (codes_of k mask second)
index_places = sequence_places

-- a code above 0 is a k-mer's, and orders as its packed code does
pub code_of_kmer : (k : ℕ) (s : List ℕ) (p : ℕ) → (0 < code_at (codes k s) p) ↔ ((x : List ℕ) × (kmer_at k s p ≡ some x))
code_of_kmer = code_kmer

pub code_is_packed : (k : ℕ) (s : List ℕ) (p : ℕ) (x : List ℕ) → kmer_at k s p ≡ some x → code_at (codes k s) p ≡ suc (packed x)
code_is_packed = code_packed

-- ---- a sweep over one

module _ (c : Settings) (first second rest work : List ℕ) where
  -- "A sweep over an index returns the same answer, listing and room contents as the plain one", whatever stands after it
  pub compare_over_index : (list : List ℕ) → compared_over c first second (index_of c.k c.mask second ++ rest) work list ≡ compared c first second work list
  compare_over_index = compared_same c first second rest work

  pub stop_over_index : (r : ℕ) → stopped_over c first second (index_of c.k c.mask second ++ rest) work r ≡ stopped c first second work r
  stop_over_index = stopped_same c first second rest work

-- "the numbers after it change nothing", of a right index or a wrong one
module _ (c : Settings) (first second index index' work : List ℕ)
    (e : take (length (index_of c.k c.mask second)) index ≡ take (length (index_of c.k c.mask second)) index') where
  pub numbers_after : (list : List ℕ) → compared_over c first second index work list ≡ compared_over c first second index' work list
  unfolding compared_over
  numbers_after list = rest_ignored c first second index index' work list (compared c first second work list) e

  pub numbers_after_stopped : (r : ℕ) → stopped_over c first second index work r ≡ stopped_over c first second index' work r
  unfolding stopped_over
  numbers_after_stopped r = rest_ignored c first second index index' work [] (stopped c first second work r) e

-- "sweeping, after 6, 12": a job that the checks let pass is refused by 12, or goes on with what comes after them
pub twelve_after_six : (c : Settings) (first second index work list : List ℕ) (rest : Outcome)
    → swept_over c first second index work list (after_checks c first second work list rest)
    ≡ after_checks c first second work list (cond (indexed c second index) rest (left (refusal 12 0 0) work list))
twelve_after_six = over_in_order

-- over what was built in room enough a job is the plain one, whichever way that ends
module _ (c : Settings) (first second room work : List ℕ) (enough : kmer_places (codes_of c.k c.mask second) ≤ length room) where
  pub built_then_compared : (list : List ℕ)
      → compared_over c first second (built_index c.k c.mask second room).index work list ≡ compared c first second work list
  unfolding compared_over
  built_then_compared list = built_then_swept c first second room work list (compared c first second work list) enough

  pub built_then_stopped : (r : ℕ) → stopped_over c first second (built_index c.k c.mask second room).index work r ≡ stopped c first second work r
  unfolding stopped_over
  built_then_stopped r = built_then_swept c first second room work [] (stopped c first second work r) enough

-- ---- "an index of the second sequence, never turned"

-- the reverse strand's matches are those of the first sequence turned and the second as it stands, rows and columns counted from the other end
pub mirrored : (c : Settings) (s t : List ℕ) (i i' j j' : ℕ) → i + i' ≡ places c.k s + 1 → j + j' ≡ places c.k t + 1
    → is_match c s (reverse_complement t) (cell i j) ≡ is_match c (reverse_complement s) t (cell i' j')
mirrored = mirrored_at
