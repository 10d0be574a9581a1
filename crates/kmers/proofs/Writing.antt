-- The room while it is filled: the codes of the places whose letters have all been seen, and behind them what was there. Assumes nothing.
use mathlib.Core.Path.{◌≡◌, refl, ◌∙◌}
use mathlib.Core.List.{List, ◌∷◌, ◌++◌}
use Prim.Native.Nat.{ℕ, suc, ◌+◌, ◌-◌, ◌<◌, ◌≤◌}
use native.Mathlib.Omega.{arith}
use lib.ListN.{length, get_or, set, drop, length-set}
use lib.Seq.{drop-cons, set_at, append_snoc}
use Rattle.rules.specs.Places.{places, kmer_at}
use Rattle.rules.specs.Codes.{kmer_code, codes_to, codes}
use Rattle.rules.proofs.Kmers.{codes_to_length}

-- after n letters
pub record Written (s : List ℕ) (k : ℕ) (before out : List ℕ) (n : ℕ) : Type 0 where
  pub long : length out ≡ length before
  pub filled : out ≡ codes_to k s (suc n - k) ++ drop (suc n - k) before

pub written_start : (s : List ℕ) (k : ℕ) (before : List ℕ) → 1 ≤ k → Written s k before before 0
unfolding codes_to
written_start s k before h =
    let e : suc 0 - k ≡ 0 = omega arith in
    record { long = refl; filled = rw e }

-- too few letters for a place
pub written_skip : (s : List ℕ) (k : ℕ) (before out : List ℕ) (n : ℕ) → n + 1 < k → Written s k before out n → Written s k before out (n + 1)
written_skip s k before out n h r =
    let e : suc (n + 1) - k ≡ suc n - k = omega arith in
    record { long = r.long; filled = rw e r.filled }

-- one more place
pub written_next : (s : List ℕ) (k : ℕ) (before out : List ℕ) (n p code : ℕ) → p + k ≡ n + 1 → p < length out → code ≡ kmer_code (kmer_at k s (suc p))
    → Written s k before out n → Written s k before (set out p code) (n + 1)
unfolding codes_to
written_next s k before out n p code e l c r =
    let room : p < length before = omega (arith, r.long) in
    let now : suc n - k ≡ p = omega arith in
    let next : suc (n + 1) - k ≡ suc p = omega arith in
    let done = codes_to k s p in
    let was : out ≡ done ++ get_or before p 0 ∷ drop (suc p) before = r.filled ∙ rw (now, drop-cons before p 0 room) in
    record {
      long = length-set out p code ∙ r.long;
      filled =
          rw (next, ← c, append_snoc done code (drop (suc p) before), was) (set_at done (get_or before p 0) (drop (suc p) before) code p (codes_to_length k s p));
    }

pub written_end : (s : List ℕ) (k : ℕ) (before out : List ℕ) (n : ℕ) → n ≡ length s → Written s k before out n → out ≡ codes k s ++ drop (places k s) before
unfolding codes places
written_end s k before out n e r = rw e at r.filled
