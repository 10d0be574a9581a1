-- The indices that the sort orders, written as places, are the index. Assumes nothing.
use mathlib.Core.Path.{◌≡◌, refl, sym, ap, subst, ◌∙◌}
use mathlib.Core.List.{List, [], ◌∷◌, ◌++◌, map}
use Prim.Native.Nat.{ℕ, zero, suc, ◌+◌, ◌-◌, ◌<◌, ◌≤◌}
use native.Mathlib.Omega.{arith}
use native.Mathlib.Numerals.{add-one}
use lib.ListN.{length, get_or, set, take, replicate, length-set}
use Rattle.rules.specs.Lists.{then_zeros}
use Rattle.rules.specs.Codes.{code_at}
use Rattle.requests.specs.Index.{index_of_codes, kmer_places}
use Rattle.requests.proofs.Index.{code_inside, index_length}
use Rattle.requests.proofs.IndexPass.{Rising, rising_whole}
use Rattle.order.specs.Order.{Ordered}
use Rattle.order.proofs.Cases.{after_set}
use Rattle.building.specs.Raised.{Raised, Small}

-- ---- writing them

pub raised_start : {order index : List ℕ} → Raised order index index 0
raised_start = record { long = refl; places = λ q l. absurd (omega arith); others = λ q l. refl }

pub raised_next : {order index₀ index : List ℕ} {n : ℕ} → n < length index → Raised order index₀ index n → Raised order index₀ (set index n (get_or order n 0 + 1)) (n + 1)
raised_next {order} {index₀} {index} {n} l w =
    let v = get_or order n 0 + 1 in
    record {
      long = length-set index n v ∙ w.long;
      places = after_set (λ q x. q < n + 1 → x ≡ suc (get_or order q 0)) index n v l (λ _. add-one (get_or order n 0)) (λ q d k. w.places q (omega arith));
      others = after_set (λ q x. n + 1 ≤ q → x ≡ get_or index₀ q 0) index n v l (λ k. absurd (omega arith)) (λ q d k. w.others q (omega arith));
    }

pub raised_end : {order index₀ index : List ℕ} {n m : ℕ} → n ≤ m → m ≤ n → Raised order index₀ index n → Raised order index₀ index m
raised_end {order} {index₀} {index} a b w = subst (Raised order index₀ index) (omega arith) w

-- ---- what they are

module _ {codes out₀ out : List ℕ} {m : ℕ} (o : Ordered codes out₀ out m) where
  pub ordered_small : length codes ≤ 16384 → Small out m
  ordered_small h = record { small = λ q l. omega (arith, o.under q l) }

  -- places one more than these indices
  module _ (ps : List ℕ) (long : m ≤ length ps) (one_more : (q : ℕ) → q < m → get_or ps q 0 ≡ suc (get_or out q 0)) where
    code : (q : ℕ) → q < m → code_at codes (get_or ps q 0) ≡ get_or codes (get_or out q 0) 0
    unfolding code_at
    code q l = ap (code_at codes) (one_more q l)

    rising : Rising codes ps m
    rising =
        record {
          kmer = λ q l. omega (arith, code q l, o.kmer q l);
          order = λ q l.
              let before = o.order q (suc q) (omega arith) l in
              let here = code q (omega arith) in
              let next = code (suc q) l in
              record {
                code = omega (arith, here, next, before.code);
                tie = λ e. omega (arith, before.tie (sym here ∙ e ∙ next), one_more q (omega arith), one_more (suc q) l);
              };
        }

    all : (p : ℕ) → 0 < code_at codes p → (q : ℕ) × (q < m) × (get_or ps q 0 ≡ p)
    unfolding code_at
    all zero h = absurd (omega arith)
    all (suc p) h =
        let inside = code_inside codes (suc p) h in
        let r = o.all p (omega (arith, inside.1)) h in
        (r.place, r.below, one_more r.place r.below ∙ ap suc r.holds)

    pub ordered_index : (take m ps ≡ index_of_codes codes) × (m ≡ kmer_places codes)
    ordered_index = rising_whole codes ps m long rising all

suc_at : (xs : List ℕ) (q : ℕ) → q < length xs → get_or (map suc xs) q 0 ≡ suc (get_or xs q 0)
suc_at [] q l = absurd (omega arith)
suc_at (x ∷ xs) zero l = refl
suc_at (x ∷ xs) (suc q) l = suc_at xs q (omega arith)

suc_long : (xs : List ℕ) → length (map suc xs) ≡ length xs
suc_long [] = refl
suc_long (x ∷ xs) = ap suc (suc_long xs)

-- so many have a k-mer
pub ordered_count : {codes out₀ out : List ℕ} {m : ℕ} → Ordered codes out₀ out m → m ≤ length out → m ≡ kmer_places codes
ordered_count {codes} {out₀} {out} {m} o l =
    (ordered_index o (map suc out) (omega (arith, suc_long out)) (λ q k. suc_at out q (omega arith))).1

-- written in front of a slice, with zeros behind them, they are what building leaves
module _ {codes out₀ out index₀ index left : List ℕ} {m : ℕ} (o : Ordered codes out₀ out m) (w : Raised out index₀ index m) (long : m ≤ length index₀)
    (z : left ≡ take m index ++ replicate (length index - m) 0) where
  pub index_left : left ≡ then_zeros (index_of_codes codes) (length index₀)
  unfolding then_zeros
  index_left =
      let places = ordered_index o index (omega (arith, w.long)) w.places in
      let size : m ≡ length (index_of_codes codes) = places.1 ∙ sym (index_length codes) in
      z ∙ (λ i. places.0 i ++ replicate (w.long i - size i) 0)
