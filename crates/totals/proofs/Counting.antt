-- Counting to the cap: a count grows by one a place until it has passed a, and then stays. Columns are counted from the last, rows from the
-- first. Assumes nothing.
use mathlib.Core.Path.{◌≡◌, refl, sym, ◌∙◌}
use mathlib.Core.List.{List}
use mathlib.Core.Logic.{⊎_elim}
use Prim.Native.Nat.{ℕ, suc, ◌+◌, ◌-◌, ◌<◌, ◌≤◌, min}
use native.Mathlib.Omega.{arith}
use native.Mathlib.Numerals.{add-one}
use lib.ListN.{get_or, length, set, length-set, replicate}
use borrow.Author.Tests.{lt-leb, le-leb}
use Rattle.order.specs.Counts.{count_in}
use Rattle.order.proofs.Cases.{le_or_lt, eq_or_ne, after_set, zero_at}
use Rattle.order.proofs.Counts.{count_zero, count_yes, count_no, count_le, count_grows}
use Rattle.totals.specs.Steps.{Zeros, Upto, count_on, Summed, Tallied}

-- ---- bounds

pub all_zeros : (n : ℕ) → Zeros (replicate n 0)
all_zeros n = record { zeros = zero_at n }

pub tally_upto : {own count₀ count : List ℕ} {n m a : ℕ} → n ≤ m → Zeros count₀ → Tallied own n a count₀ count
    → Upto count (length count) (min m (a + 1))
tally_upto {own} {n = n} l z t = record { upto = λ p k. omega (arith, t.sums.each p k, z.zeros p, count_le own (suc p) n) }

-- ---- one place more

pub count_below : {a v : ℕ} → v ≤ a → v + 1 ≡ count_on a v
unfolding count_on
count_below {a} {v} l = rw (le-leb v a l)

pub count_above : {a v : ℕ} → a < v → v ≡ count_on a v
unfolding count_on
count_above {a} {v} l = rw (lt-leb v a l)

summed_same : {s : ℕ → ℕ} {a : ℕ} {count₀ count : List ℕ} → Summed s a count₀ count → (s' : ℕ → ℕ) → ((q : ℕ) → s' q ≡ s q) → Summed s' a count₀ count
summed_same o s' same = record { long = o.long; each = λ q l. omega (arith, o.each q l, same q) }

-- index i is counted once more
module _ {s : ℕ → ℕ} {a : ℕ} {count₀ count : List ℕ} (o : Summed s a count₀ count) (s' : ℕ → ℕ) (i : ℕ) (here : i < length count)
    (more : s' i ≡ s i + 1) (others : (q : ℕ) → (q ≡ i → ⊥) → s' q ≡ s q) where
  summed_next : Summed s' a count₀ (set count i (count_on a (get_or count i 0)))
  summed_next =
      let v : ℕ = get_or count i 0 in
      record {
        long = length-set count i (count_on a v) ∙ o.long;
        each = after_set (λ q x. q < length (set count i (count_on a v)) → x ≡ min (get_or count₀ q 0 + s' q) (a + 1)) count i (count_on a v) here
            (λ _.
            ⊎_elim
            (λ (l : v ≤ a). omega (arith, count_below l, o.each i here, more))
            (λ (l : a < v). omega (arith, count_above l, o.each i here, more))
            (le_or_lt v a))
            (λ q other k. omega (arith, o.each q (omega (arith, length-set count i (count_on a v))), others q other));
      }

  -- past a nothing need be stored
  summed_ended : a < get_or count i 0 → Summed s' a count₀ count
  summed_ended l = record {
    long = o.long;
    each = λ q k.
        ⊎_elim
        (λ (at : q ≡ i). rw at (omega (arith, o.each i here, more)))
        (λ (other : q ≡ i → ⊥). omega (arith, o.each q k, others q other))
        (eq_or_ne q i);
  }

-- ---- from the first place on

pub tallied_start : {own count : List ℕ} {a : ℕ} → Upto count (length count) (min 16384 (a + 1)) → Tallied own 0 a count count
tallied_start {own} u = record { sums = record { long = refl; each = λ q l. omega (arith, count_zero own (suc q), u.upto q l) } }

-- r is the owner read at n
module _ {own count₀ count : List ℕ} {n a r : ℕ} (e : r ≡ get_or own n 0) (t : Tallied own n a count₀ count) where
  pub tallied_skip : r ≤ 0 → Tallied own (n + 1) a count₀ count
  tallied_skip z = record {
    sums = summed_same t.sums (λ q. count_in own (suc q) (n + 1)) (λ q. rw (add-one n) (count_no own (suc q) n (λ u. absurd (omega arith))));
  }

  module _ (z : 0 < r) {m : ℕ} (more : n < m) (bound : Upto own m (length count₀)) where
    pub owner_counted : r - 1 < length count
    owner_counted = omega (arith, t.sums.long, bound.upto n more)

    pub count_small : m ≤ 16384 → Upto count₀ (length count₀) (min 16384 (a + 1)) → get_or count (r - 1) 0 ≤ 32767
    count_small few u =
        let here : r - 1 < length count = owner_counted in
        omega (arith, t.sums.each (r - 1) here, u.upto (r - 1) (omega (arith, t.sums.long)), count_le own (suc (r - 1)) n)

    here_more : count_in own (suc (r - 1)) (n + 1) ≡ count_in own (suc (r - 1)) n + 1
    here_more = rw (add-one n) (count_yes own (suc (r - 1)) n (omega arith))

    others_same : (q : ℕ) → (q ≡ r - 1 → ⊥) → count_in own (suc q) (n + 1) ≡ count_in own (suc q) n
    others_same q other = rw (add-one n) (count_no own (suc q) n (λ u. other (omega arith)))

    pub tallied_next : Tallied own (n + 1) a count₀ (set count (r - 1) (count_on a (get_or count (r - 1) 0)))
    tallied_next = record { sums = summed_next t.sums (λ q. count_in own (suc q) (n + 1)) (r - 1) owner_counted here_more others_same }

    pub tallied_ended : a < get_or count (r - 1) 0 → Tallied own (n + 1) a count₀ count
    tallied_ended l = record { sums = summed_ended t.sums (λ q. count_in own (suc q) (n + 1)) (r - 1) owner_counted here_more others_same l }

pub tallied_end : {own count₀ count : List ℕ} {i n a : ℕ} → i ≤ n → n ≤ i → Tallied own i a count₀ count → Tallied own n a count₀ count
tallied_end {own} {count₀} {count} {i} {n} {a} l m t = let e : i ≡ n = omega arith in rw (sym e) t

-- ---- from the last place on

-- the places from k on are counted, of n
pub record TalliedFrom (own : List ℕ) (n k a : ℕ) (count₀ count : List ℕ) : Type 0 where
  pub sums : Summed (λ q. count_in own (suc q) n - count_in own (suc q) k) a count₀ count

pub from_start : {own count : List ℕ} {n a : ℕ} → Zeros count → TalliedFrom own n n a count count
from_start z = record { sums = record { long = refl; each = λ q l. omega (arith, z.zeros q) } }

-- one turn, at index j: r is the owner read there
module _ {own count₀ count : List ℕ} {n k a r : ℕ} (j : ℕ) (at : k ≡ j + 1) (inside : j < n) (e : r ≡ get_or own j 0)
    (t : TalliedFrom own n k a count₀ count) where
  pub from_skip : r ≡ 0 → TalliedFrom own n j a count₀ count
  from_skip z = record {
    sums = summed_same t.sums (λ q. count_in own (suc q) n - count_in own (suc q) j) (λ q.
        rw (at, add-one j) (omega (arith, count_no own (suc q) j (λ u. absurd (omega arith)))));
  }

  module _ (z : r ≡ 0 → ⊥) (here : r - 1 < length count) where
    pub from_small : Zeros count₀ → n ≤ 16384 → get_or count (r - 1) 0 ≤ 32767
    from_small none few = omega (arith, t.sums.each (r - 1) here, none.zeros (r - 1), count_le own (suc (r - 1)) n)

    pub from_next : TalliedFrom own n j a count₀ (set count (r - 1) (count_on a (get_or count (r - 1) 0)))
    from_next = record {
      sums = summed_next t.sums (λ q. count_in own (suc q) n - count_in own (suc q) j) (r - 1) here
          (rw (at, add-one j)
          (let one = count_yes own (suc (r - 1)) j (omega arith) in
          omega (arith, one, count_grows own (suc (r - 1)) (suc j) n (omega arith))))
          (λ q other. rw (at, add-one j) (omega (arith, count_no own (suc q) j (λ u. other (omega arith)))));
    }

pub from_end : {own count₀ count : List ℕ} {n k a : ℕ} → k ≤ 0 → TalliedFrom own n k a count₀ count → Tallied own n a count₀ count
from_end {own} {n = n} {k = k} l t =
    let z : k ≡ 0 = omega arith in
    record { sums = summed_same t.sums (λ q. count_in own (suc q) n) (λ q. rw z (omega (arith, count_zero own (suc q)))) }
