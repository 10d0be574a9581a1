-- A code by the letters of its place, and its bound: at most 62 bits and one. Assumes nothing.
use mathlib.Core.Path.{◌≡◌, refl, sym, ap, ◌∙◌}
use mathlib.Core.Bool.{Bool, true, false, cond}
use mathlib.Core.List.{List, ◌++◌}
use mathlib.Core.Option.{none, some}
use mathlib.Core.Logic.{⊎_elim}
use Prim.Native.Nat.{ℕ, zero, suc, ◌+◌, ◌^◌, ◌<◌, ◌≤◌}
use native.Mathlib.Omega.{arith}
use lib.ListN.{length, take, drop, length-append}
use lib.Seq.{take_at}
use Rattle.rules.specs.Letters.{as_read}
use Rattle.rules.specs.Places.{places, all_bases, letters_at, kmer_at, packed}
use Rattle.rules.specs.Codes.{kmer_code, codes, code_at}
use Rattle.rules.proofs.Kmers.{code_at_lem, kmer_outside, codes_length}
use Rattle.rules.proofs.Masks.{read_places}
use Rattle.kmers.proofs.Tests.{le_or_lt}
use Rattle.kmers.proofs.Packing.{packed_62}
use Rattle.kmers.proofs.Standing.{kmer_inside, letters_most}

-- a code inside the places, by the letters there
pub code_inside : (k : ℕ) (s : List ℕ) (place : ℕ) → 1 ≤ place → place ≤ places k s
    → kmer_code (kmer_at k s place) ≡ cond (all_bases (letters_at k s place)) (suc (packed (letters_at k s place))) 0
unfolding kmer_code
code_inside k s place h l = rw (kmer_inside k s place h l) (go (all_bases (letters_at k s place)))
  where
    go : (t : Bool) → kmer_code (cond t (some (letters_at k s place)) none) ≡ cond t (suc (packed (letters_at k s place))) 0
    go true = refl
    go false = refl

-- a code takes at most 62 bits and the one for none
pub code_bound : (k : ℕ) (s : List ℕ) (place : ℕ) → k ≤ 31 → kmer_code (kmer_at k s place) < 2 ^ 62 + 1
unfolding kmer_code
code_bound k s zero h = rw (kmer_outside k s 0 (λ w. omega (arith, w.0))) (omega arith)
code_bound k s (suc p) h =
    ⊎_elim
    (λ l. rw (code_inside k s (suc p) (omega arith) l) (go (all_bases (letters_at k s (suc p))) refl))
    (λ l. rw (kmer_outside k s (suc p) (λ w. omega (arith, w.1, l))) (omega arith))
    (le_or_lt (suc p) (places k s))
  where
    go : (t : Bool) → all_bases (letters_at k s (suc p)) ≡ t → cond t (suc (packed (letters_at k s (suc p)))) 0 < 2 ^ 62 + 1
    go true e = omega (arith, packed_62 (letters_at k s (suc p)) e (omega (arith, letters_most k s (suc p))))
    go false e = omega arith

pub code_at_bound : (k : ℕ) (s : List ℕ) (i : ℕ) → k ≤ 31 → code_at (codes k s) i < 2 ^ 62 + 1
code_at_bound k s i h = rw (code_at_lem k s i) (code_bound k s i h)

-- the places of a sequence are few
pub places_few : (k : ℕ) (s : List ℕ) → 1 ≤ k → length s ≤ 16384 → places k s ≤ 16384
unfolding places
places_few k s h l = omega arith

-- a list that stands in front of an array
pub record Front (xs out : List ℕ) (n : ℕ) : Type 0 where
  pub front : take n out ≡ xs
  pub inside : n ≤ length out
  pub long : n ≡ length (take n out)

pub front_of : (xs rest : List ℕ) {out : List ℕ} {n : ℕ} → n ≡ length xs → out ≡ xs ++ rest → Front xs out n
front_of xs rest {out} {n} e d =
    let front : take n out ≡ xs = ap (take n) d ∙ take_at xs rest n (sym e) in
    record { front = front; inside = omega (arith, simp length-append at (ap length d)); long = e ∙ sym (ap length front) }

-- as the codes of a sequence as it is read do, once all are made
pub coded_front : (k mask : ℕ) (s rest : List ℕ) {out : List ℕ} {n : ℕ} → n ≡ places k s → out ≡ codes k (as_read mask s) ++ rest
    → Front (codes k (as_read mask s)) out n
coded_front k mask s rest e d = front_of (codes k (as_read mask s)) rest (e ∙ sym (codes_length k (as_read mask s) ∙ read_places mask k s)) d

-- a room that has the codes, and behind them what was there, is one list only
pub codes_unique : (k : ℕ) (s before a b : List ℕ) → a ≡ codes k s ++ drop (places k s) before → b ≡ codes k s ++ drop (places k s) before → a ≡ b
codes_unique k s before a b e f = e ∙ sym f
