-- Every key lies before the end of its bucket, whatever the buckets are. Assumes nothing.
use mathlib.Core.Path.{◌≡◌, refl, ap, ◌∙◌}
use mathlib.Core.List.{List}
use mathlib.Core.Logic.{⊎_elim}
use Prim.Native.Nat.{ℕ, zero, suc, ◌+◌, ◌/◌, ◌^◌, ◌<◌, ◌≤◌}
use native.Mathlib.Omega.{arith}
use native.Mathlib.Numerals.{add-one}
use lib.ListN.{length, get_or, set, take, replicate, length-set, length-replicate}
use Rattle.std.proofs.Common.{get_or-take}
use Rattle.std.proofs.lemmas.List.{length-take-le}
use Rattle.order.proofs.Cases.{eq_or_ne, after_set, zero_at}
use Rattle.directory.specs.Directory.{bucket_of, ends_to, Bucketed}

pub bucket_small : (low code : ℕ) → bucket_of low code < 65536
unfolding bucket_of
bucket_small low code = let n : ℕ = code / 2 ^ low in omega arith

bucketed_next : {low : ℕ} {keys ends : List ℕ} {n : ℕ} → Bucketed low keys ends n → Bucketed low keys (set ends (bucket_of low (get_or keys n 0)) (suc n)) (suc n)
bucketed_next {low} {keys} {ends} {n} w =
    let b = bucket_of low (get_or keys n 0) in
    let inside : b < length ends = omega (arith, bucket_small low (get_or keys n 0), w.wide) in
    record {
      wide = length-set ends b (suc n) ∙ w.wide;
      upto = after_set (λ q x. x ≤ suc n) ends b (suc n) inside (omega arith) (λ q d. omega (arith, w.upto q));
      to = λ q l. after_set (λ p x. p ≡ bucket_of low (get_or keys q 0) → q < x) ends b (suc n) inside (λ _. omega arith)
          (λ p d e. rw e (w.to q (earlier q l (λ g. d (e ∙ g))))) (bucket_of low (get_or keys q 0)) refl;
    }
  where
    -- a key of another bucket is an earlier one
    earlier : (q : ℕ) → q < suc n → (bucket_of low (get_or keys q 0) ≡ bucket_of low (get_or keys n 0) → ⊥) → q < n
    earlier q l d = ⊎_elim (λ (e : q ≡ n). absurd (d (ap (λ (m : ℕ). bucket_of low (get_or keys m 0)) e))) (λ (e : q ≡ n → ⊥). omega arith) (eq_or_ne q n)

-- THE LAW: in an array of zeros
filled : (low : ℕ) (keys ends : List ℕ) → length ends ≡ 65536 → ((b : ℕ) → get_or ends b 0 ≡ 0) → (n : ℕ) → Bucketed low keys (ends_to low keys ends n) n
unfolding ends_to
filled low keys ends l z zero = record { wide = l; upto = λ b. omega (arith, z b); to = λ q k. absurd (omega arith) }
filled low keys ends l z (suc n) = bucketed_next (filled low keys ends l z n)

-- ---- filling them, after q of n turns

pub record Filling (low : ℕ) (keys ends₀ ends : List ℕ) (n q : ℕ) : Type 0 where
  pub upto : q ≤ n
  pub wide : length ends ≡ 65536
  pub ends_are : ends ≡ ends_to low keys ends₀ q

pub filling_start : {low n : ℕ} {keys ends : List ℕ} → length ends ≡ 65536 → Filling low keys ends ends n 0
unfolding ends_to
filling_start l = record { upto = omega arith; wide = l; ends_are = refl }

module _ {low n q : ℕ} {keys ends₀ ends : List ℕ} (w : Filling low keys ends₀ ends n q) {b : ℕ} (e : b ≡ bucket_of low (get_or keys q 0)) where
  pub in_ends : b < length ends
  in_ends = omega (arith, bucket_small low (get_or keys q 0), w.wide)

  pub filling_next : q < n → Filling low keys ends₀ (set ends b (q + 1)) n (q + 1)
  unfolding ends_to
  filling_next l = record { upto = omega arith; wide = length-set ends b (q + 1) ∙ w.wide; ends_are = rw (add-one q, w.ends_are, e) }

pub filling_end : {low n q : ℕ} {keys ends₀ ends : List ℕ} → Filling low keys ends₀ ends n q → n ≤ q → ends ≡ ends_to low keys ends₀ n
filling_end {low} {n} {q} {keys} {ends₀} w h = let e : q ≡ n = omega (arith, w.upto) in w.ends_are ∙ ap (ends_to low keys ends₀) e

-- the keys behind the first n fill no bucket
ends_front : (low : ℕ) (keys ends : List ℕ) (n m : ℕ) → m ≤ n → ends_to low (take n keys) ends m ≡ ends_to low keys ends m
unfolding ends_to
ends_front low keys ends n zero h = refl
ends_front low keys ends n (suc m) h =
    let read : get_or (take n keys) m 0 ≡ get_or keys m 0 = get_or-take n keys m 0 (omega arith) in
    rw (ends_front low keys ends n m (omega arith), read)

-- filled from an array as it is made, with the first n keys
pub directory_ready : {low n m : ℕ} {keys ends : List ℕ} → n ≡ m → n ≤ length keys → ends ≡ ends_to low (take n keys) (replicate 65536 0) (length (take n keys))
    → Bucketed low keys ends m
directory_ready {low} {n} {m} {keys} d h e =
    let size : length (take n keys) ≡ n = length-take-le n keys h in
    rw (e, size, ends_front low keys (replicate 65536 0) n n (omega arith), d) (filled low keys (replicate 65536 0) (length-replicate {A = ℕ} 65536 0) (zero_at 65536) m)
