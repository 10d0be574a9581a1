-- The rolling code: the bases that end the letters seen so far, packed, with those above the last k dropped. Assumes nothing.
use mathlib.Core.Path.{◌≡◌, refl, sym, ap, ◌∙◌}
use mathlib.Core.Bool.{true, false, cond}
use mathlib.Core.List.{List, [], ◌∷◌, ◌++◌}
use mathlib.Core.Logic.{⊎_elim}
use Prim.Native.Nat.{ℕ, zero, suc, ◌+◌, ◌-◌, ◌*◌, ◌/◌, ◌%◌, ◌^◌, ◌<◌, ◌≤◌}
use native.Mathlib.Nat.{zero-mod, mod-lt, mul_right_comm, mul-add-mod_self_right, div-add-mod', not-suc-le-zero}
use native.Mathlib.Omega.{arith}
use native.Mathlib.Numerals.{add-one}
use lib.Dec.{leb}
use lib.ListN.{length, get_or, take, drop, length-drop}
use lib.Pow.{pow_pos, pow_mono, low}
use lib.Seq.{take-suc, take-add, drop-drop, get_or-drop, length-take-le}
use borrow.Author.Tests.{lt-ltb, le-ltb, le-leb, lt-leb}
use Rattle.rules.specs.Places.{places, base_of, all_bases, kmer_at, packed, pack_on}
use Rattle.rules.specs.Codes.{kmer_code}
use Rattle.rules.proofs.Tests.{and_false}
use Rattle.kmers.proofs.Tests.{le_or_lt, and_true}
use Rattle.kmers.proofs.Packing.{all_append, packed_append, packed_snoc, packed_lt}
use Rattle.kmers.proofs.Standing.{letters_from}
use Rattle.kmers.proofs.Codes.{code_inside}

-- the last m of the first n letters
unfoldable pub ending : ℕ → ℕ → List ℕ → List ℕ
ending n m s = take m (drop (n - m) s)

ending_more : (s : List ℕ) (n m : ℕ) → m ≤ n → n < length s → ending (suc n) (suc m) s ≡ ending n m s ++ get_or s n 0 ∷ []
unfolding ending
ending_more s n m h l =
    let e : suc n - suc m ≡ n - m = omega arith in
    let back : n - m + m ≡ n = omega arith in
    let long : m < length (drop (n - m) s) = rw (length-drop (n - m) s) (omega arith) in
    rw (e, take-suc (drop (n - m) s) m 0 long, get_or-drop (n - m) s m 0, back)

-- the last m letters end with the last k of them
ending_split : (s : List ℕ) (n m k : ℕ) → k ≤ m → m ≤ n → ending n m s ≡ take (m - k) (drop (n - m) s) ++ ending n k s
unfolding ending
ending_split s n m k h l =
    let e : m ≡ m - k + k = omega arith in
    let g : n - m + (m - k) ≡ n - k = omega arith in
    ap (λ (t : ℕ). take t (drop (n - m) s)) e ∙ take-add (m - k) k (drop (n - m) s) ∙ rw (drop-drop (m - k) (n - m) s, g)

ending_long : (s : List ℕ) (n k : ℕ) → k ≤ n → n ≤ length s → length (ending n k s) ≡ k
unfolding ending
ending_long s n k h l = length-take-le k (drop (n - k) s) (rw (length-drop (n - k) s) (omega arith))

-- a letter more, after letters that are all bases or not
bases_more : (xs : List ℕ) (x : ℕ) → all_bases xs ≡ true → base_of x < 4 → all_bases (xs ++ x ∷ []) ≡ true
unfolding all_bases
bases_more xs x h b = rw (all_append xs (x ∷ []), h, lt-ltb (base_of x) 4 b)

broken_before : (xs : List ℕ) (x : ℕ) → all_bases xs ≡ false → all_bases (xs ++ x ∷ []) ≡ false
unfolding all_bases
broken_before xs x h = rw (all_append xs (x ∷ []), h)

broken_here : (xs : List ℕ) (x : ℕ) → 4 ≤ base_of x → all_bases (xs ++ x ∷ []) ≡ false
unfolding all_bases
broken_here xs x b = rw (all_append xs (x ∷ []), le-ltb (base_of x) 4 b) (and_false (all_bases xs))

-- dropping a remainder before a step changes nothing
mod_step : (x b m : ℕ) → ((x % m) * 4 + b) % m ≡ (x * 4 + b) % m
mod_step x b m =
    let e : x * 4 + b ≡ (x / m * 4) * m + ((x % m) * 4 + b) = omega (arith, div-add-mod' x m, mul_right_comm (x / m) 4 m) in
    sym (rw e (mul-add-mod_self_right (x / m * 4) m ((x % m) * 4 + b)))

-- of the first n letters the last `run` are bases, and no more than these
pub record Rolled (s : List ℕ) (k code run n : ℕ) : Type 0 where
  pub within : run ≤ n
  pub bases : all_bases (ending n run s) ≡ true
  pub longest : (m : ℕ) → run < m → m ≤ n → all_bases (ending n m s) ≡ false
  pub value : code ≡ packed (ending n run s) % 2 ^ (2 * k)

-- no letter at all
empty_bases : (s : List ℕ) (n : ℕ) → all_bases (ending n 0 s) ≡ true
unfolding ending all_bases
empty_bases s n = refl

empty_packed : (s : List ℕ) (k n : ℕ) → 0 ≡ packed (ending n 0 s) % 2 ^ (2 * k)
unfolding ending packed pack_on
empty_packed s k n = sym (zero-mod (2 ^ (2 * k)))

pub rolled_start : (s : List ℕ) (k : ℕ) → Rolled s k 0 0 0
rolled_start s k = record { within = omega arith; bases = empty_bases s 0; longest = λ m h l. absurd (omega arith); value = empty_packed s k 0 }

pub rolled_62 : (s : List ℕ) (k code run n : ℕ) → k ≤ 31 → Rolled s k code run n → code < 2 ^ 62
rolled_62 s k code run n h r =
    let l : 2 ^ (2 * k) ≤ 2 ^ 62 = pow_mono {i = 2 * k} {j = 62} (omega arith) in
    omega (arith, r.value, mod-lt (packed (ending n run s)) (pow_pos (2 * k)))

rolled_suc : (s : List ℕ) (k code run n code' : ℕ) → n < length s → base_of (get_or s n 0) < 4 → code' ≡ (code * 4 + base_of (get_or s n 0)) % 2 ^ (2 * k)
    → Rolled s k code run n → Rolled s k code' (suc run) (suc n)
rolled_suc s k code run n code' l b e r = record {
  within = omega (arith, r.within);
  bases = rw (ending_more s n run r.within l) (bases_more (ending n run s) (get_or s n 0) r.bases b);
  longest = longer;
  value = e ∙ rw (r.value, mod_step, ending_more s n run r.within l, packed_snoc);
}
  where
    longer : (m : ℕ) → suc run < m → m ≤ suc n → all_bases (ending (suc n) m s) ≡ false
    longer zero h t = absurd (not-suc-le-zero h)
    longer (suc m) h t =
        let g : m ≤ n = omega arith in
        rw (ending_more s n m g l) (broken_before (ending n m s) (get_or s n 0) (r.longest m (omega arith) g))

pub rolled_base : (s : List ℕ) (k code run n code' : ℕ) → n < length s → base_of (get_or s n 0) < 4 → code' ≡ (code * 4 + base_of (get_or s n 0)) % 2 ^ (2 * k)
    → Rolled s k code run n → Rolled s k code' (run + 1) (n + 1)
rolled_base s k code run n code' l b e r = rw (add-one run, add-one n) (rolled_suc s k code run n code' l b e r)

pub rolled_break : (s : List ℕ) (k n : ℕ) → n < length s → 4 ≤ base_of (get_or s n 0) → Rolled s k 0 0 (n + 1)
rolled_break s k n l b =
    rw (add-one n) record { within = omega arith; bases = empty_bases s (suc n); longest = longer; value = empty_packed s k (suc n) }
  where
    longer : (m : ℕ) → 0 < m → m ≤ suc n → all_bases (ending (suc n) m s) ≡ false
    longer zero h t = absurd (not-suc-le-zero h)
    longer (suc m) h t = rw (ending_more s n m (omega arith) l) (broken_here (ending n m s) (get_or s n 0) b)

-- the place whose letters end here: its letters are the last k
last_code : (s : List ℕ) (k n p : ℕ) → p + k ≡ n → n ≤ length s
    → kmer_code (kmer_at k s (suc p)) ≡ cond (all_bases (ending n k s)) (suc (packed (ending n k s))) 0
unfolding ending places
last_code s k n p e l =
    let g : n - k ≡ p = omega arith in
    code_inside k s (suc p) (omega arith) (omega arith) ∙ rw (letters_from k s p, g)

-- at least k bases: the code is what the last k pack
code_of_run : (s : List ℕ) (k code run n : ℕ) → k ≤ run → n ≤ length s → Rolled s k code run n
    → (all_bases (ending n k s) ≡ true) × (code ≡ packed (ending n k s))
code_of_run s k code run n h l r =
    let front = take (run - k) (drop (n - run) s) in
    let split = ending_split s n run k h r.within in
    let two = and_true (all_bases front) (all_bases (ending n k s)) (sym (all_append front (ending n k s)) ∙ sym (ap all_bases split) ∙ r.bases) in
    let long : length (ending n k s) ≡ k = ending_long s n k (omega (arith, r.within)) l in
    let small : packed (ending n k s) < 2 ^ (2 * k) = rw long at (packed_lt (ending n k s) two.1) in
    (two.1, r.value ∙ rw (split, packed_append front (ending n k s), long) (low (packed front) (2 * k) small))

pub rolled_code : (s : List ℕ) (k code run n p : ℕ) → p + k ≡ n → n ≤ length s → Rolled s k code run n
    → cond (leb k run) (code + 1) 0 ≡ kmer_code (kmer_at k s (suc p))
rolled_code s k code run n p e l r =
    ⊎_elim
    (λ h. let w = code_of_run s k code run n h l r in rw (le-leb k run h, last_code s k n p e l, w.0, w.1) (omega arith))
    (λ h. rw (lt-leb k run h, last_code s k n p e l, r.longest k h (omega arith)))
    (le_or_lt k run)
