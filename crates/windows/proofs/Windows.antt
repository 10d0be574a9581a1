-- The sum over a window of columns: how it moves from one column to another, and with one count more or less. Sums are told modulo 2 ^ 32, so that
-- nothing need be known of the counts. Assumes nothing.
use Rattle.std.proofs.Common.{◌≡◌, ℕ, zero, suc, ◌+◌, ◌-◌, ◌%◌, ◌^◌, ◌<◌, ◌≤◌, true, false, cond, ◌≢◌, List, length, get_or, set, replicate, sym, refl, ap, ◌∙◌, arith, length-set, get_or-set_other, get_or-set_same, take, drop, length-drop, add-one}
use Rattle.std.specs.List.{fold}
use Rattle.std.proofs.lemmas.List.{get_or-drop}
use Rattle.std.proofs.lemmas.List.Sums.{fold_more}
use lib.ListN.{length-replicate, get_or-replicate}
use Rattle.rules.proofs.Tests.{Three, below, equal, above, three, tests, T_true, T_false}
use Rattle.windows.specs.Windows.{sum_from, window_sum, in_window, WindowHolds}

-- ---- sums

-- added one after the other, modulo 2 ^ 32
pub fold_sums : (counts : List ℕ) (lo n : ℕ) → lo + n ≤ length counts → fold (λ a x. (a + x) % 2 ^ 32) 0 (take n (drop lo counts)) ≡ sum_from counts lo n % 2 ^ 32
unfolding sum_from
fold_sums counts lo zero h = refl
fold_sums counts lo (suc n) h =
    let l : n < length (drop lo counts) = omega (arith, length-drop lo counts) in
    let e = rw add-one at (fold_more (λ (a x : ℕ). (a + x) % 2 ^ 32) 0 (drop lo counts) n 0 l) in
    e ∙ rw (fold_sums counts lo n (omega arith), get_or-drop lo counts n 0) (mod_next (sum_from counts lo n) (get_or counts (lo + n) 0))
  where
    mod_next : (x y : ℕ) → (x % 2 ^ 32 + y) % 2 ^ 32 ≡ (x + y) % 2 ^ 32
    mod_next x y = omega arith

sum_join : (counts : List ℕ) (lo n m : ℕ) → sum_from counts lo n + sum_from counts (lo + n) m ≡ sum_from counts lo (n + m)
unfolding sum_from
sum_join counts lo n zero = let e : n + 0 ≡ n = omega arith in rw e (omega arith)
sum_join counts lo n (suc m) =
    let e : n + suc m ≡ suc (n + m) = omega arith in
    let f : lo + (n + m) ≡ lo + n + m = omega arith in
    rw (e, f) (omega (arith, sum_join counts lo n m))

-- which columns are summed, in numbers
pub same_sum : (counts : List ℕ) {r : ℕ} (lo n lo' n' : ℕ) → r ≡ sum_from counts lo n % 2 ^ 32 → lo ≡ lo' → n ≡ n' → r ≡ sum_from counts lo' n' % 2 ^ 32
same_sum counts lo n lo' n' e f g = e ∙ λ i. sum_from counts (f i) (g i) % 2 ^ 32

-- one count changed
module _ (counts : List ℕ) (j v lo : ℕ) where
  sum_outside : (n : ℕ) → ((q : ℕ) → q < n → lo + q ≢ j) → sum_from (set counts j v) lo n ≡ sum_from counts lo n
  unfolding sum_from
  sum_outside zero h = refl
  sum_outside (suc n) h =
      omega (arith, sum_outside n (λ q l. h q (omega arith)), get_or-set_other counts j (lo + n) v 0 (λ z. h n (omega arith) (omega arith)))

  sum_inside : (n : ℕ) → lo ≤ j → j < lo + n → j < length counts → sum_from (set counts j v) lo n + get_or counts j 0 ≡ sum_from counts lo n + v
  unfolding sum_from
  sum_inside zero h g l = absurd (omega arith)
  sum_inside (suc n) h g l = go (three j (lo + n)) (λ b. sum_inside n h b l)
    where
      go : Three j (lo + n) → (j < lo + n → sum_from (set counts j v) lo n + get_or counts j 0 ≡ sum_from counts lo n + v)
          → sum_from (set counts j v) lo n + get_or (set counts j v) (lo + n) 0 + get_or counts j 0 ≡ sum_from counts lo n + get_or counts (lo + n) 0 + v
      go (below b) rest = omega (arith, rest b, get_or-set_other counts j (lo + n) v 0 (λ z. omega arith))
      go (equal e) rest = rw (← e) (omega (arith, sum_outside n (λ q k z. omega arith), get_or-set_same counts j v 0 l))
      go (above a) rest = absurd (omega arith)

-- ---- modulo 2 ^ 32

mod_add : (x y : ℕ) → (x % 2 ^ 32 + y % 2 ^ 32) % 2 ^ 32 ≡ (x + y) % 2 ^ 32
mod_add x y = omega arith

mod_cancel : (l w r : ℕ) → (r + l % 2 ^ 32) % 2 ^ 32 ≡ (l + w) % 2 ^ 32 → r < 2 ^ 32 → r ≡ w % 2 ^ 32
mod_cancel l w r e h = omega arith

-- a sum in which the number c became c + 1, and one in which it became v, where c is v + 1
mod_more : (sum new c : ℕ) → new + c ≡ sum + (c + 1) % 2 ^ 32 → (sum % 2 ^ 32 + 1) % 2 ^ 32 ≡ new % 2 ^ 32
mod_more sum new c e = omega arith

mod_less : (sum new v r : ℕ) → new + (v + 1) % 2 ^ 32 ≡ sum + v → (r + 1) % 2 ^ 32 ≡ sum % 2 ^ 32 → r < 2 ^ 32 → r ≡ new % 2 ^ 32
mod_less sum new v r e f h = omega arith

-- what is taken off and put back
pub sub_back : (e s : ℕ) → e < 2 ^ 32 → s < 2 ^ 32 → ((e + (2 ^ 32 - s)) % 2 ^ 32 + s) % 2 ^ 32 ≡ e
sub_back e s h g = omega arith

-- ---- windows

-- from column `at` on to column j
module _ (counts : List ℕ) (b at j : ℕ) (h : at ≤ j) where
  -- both windows in one sum, split in either way
  window_moves : window_sum counts b at + sum_from counts (at + 1) (j + 1 - (at + 1)) ≡ sum_from counts (at - b) (j - b - (at - b)) + window_sum counts b j
  unfolding window_sum
  window_moves =
      let e : at - b + (at + 1 - (at - b)) ≡ at + 1 = omega arith in
      let f : at - b + (j - b - (at - b)) ≡ j - b = omega arith in
      let g : at + 1 - (at - b) + (j + 1 - (at + 1)) ≡ j - b - (at - b) + (j + 1 - (j - b)) = omega arith in
      let left = rw e at (sum_join counts (at - b) (at + 1 - (at - b)) (j + 1 - (at + 1))) in
      let right = rw f at (sum_join counts (at - b) (j - b - (at - b)) (j + 1 - (j - b))) in
      left ∙ ap (sum_from counts (at - b)) g ∙ sym right

  -- what enters is added and what leaves is taken off
  pub window_slid : {held entered r : ℕ} → held ≡ window_sum counts b at % 2 ^ 32
      → entered ≡ (held + sum_from counts (at + 1) (j + 1 - (at + 1)) % 2 ^ 32) % 2 ^ 32
      → (r + sum_from counts (at - b) (j - b - (at - b)) % 2 ^ 32) % 2 ^ 32 ≡ entered → r < 2 ^ 32 → r ≡ window_sum counts b j % 2 ^ 32
  window_slid {held} {entered} {r} eh ee er small =
      let enters = sum_from counts (at + 1) (j + 1 - (at + 1)) in
      let leaves = sum_from counts (at - b) (j - b - (at - b)) in
      let whole : entered ≡ (leaves + window_sum counts b j) % 2 ^ 32 =
      ee ∙ rw eh (mod_add (window_sum counts b at) enters) ∙ ap (λ (m : ℕ). m % 2 ^ 32) window_moves in
      mod_cancel leaves (window_sum counts b j) r (er ∙ whole) small

-- before any match no window holds one
pub window_none : (n b : ℕ) → n ≡ 16385 → WindowHolds (replicate n 0) b 0 0
unfolding window_sum sum_from
window_none n b h =
    let e : 0 - b ≡ 0 = omega arith in
    let z = get_or-replicate {A = ℕ} n 0 0 0 (omega arith) in
    record { places = length-replicate {A = ℕ} n 0 ∙ h; sum = rw e (omega arith) }

-- ---- which columns a window has

module _ (b at q : ℕ) where
  pub before_window : q < at - b → in_window b at q ≡ false
  unfolding in_window
  before_window h = T_false (in_window b at q) (λ t. let f = simp (in_window, tests) at t in omega arith)

  pub after_window : at < q → in_window b at q ≡ false
  unfolding in_window
  after_window h = T_false (in_window b at q) (λ t. let f = simp (in_window, tests) at t in omega arith)

  pub in_window_lem : at - b ≤ q → q ≤ at → in_window b at q ≡ true
  unfolding in_window
  in_window_lem h g = T_true (in_window b at q) (simp (in_window, tests) (omega arith))

-- ---- one match more or less

module _ (counts : List ℕ) (b : ℕ) where
  -- one more in its own column
  pub window_more : length counts ≡ 16385 → (j : ℕ) → j ≤ 16384 → {window held : ℕ} → window ≡ window_sum counts b j % 2 ^ 32 → held ≡ (window + 1) % 2 ^ 32
      → WindowHolds (set counts j ((get_or counts j 0 + 1) % 2 ^ 32)) b j held
  unfolding window_sum
  window_more long j l ew eh =
      let v = (get_or counts j 0 + 1) % 2 ^ 32 in
      record {
        places = length-set counts j v ∙ long;
        sum =
            eh ∙ rw ew (mod_more (window_sum counts b j) (window_sum (set counts j v) b j) (get_or counts j 0)
            (sum_inside counts j v (j - b) (j + 1 - (j - b)) (omega arith) (omega arith) (omega arith)));
      }

  -- one less in column q
  pub window_less : {at held : ℕ} → WindowHolds counts b at held → (q : ℕ) → q ≤ 16384 → (less : ℕ) → (less + 1) % 2 ^ 32 ≡ get_or counts q 0
      → {r : ℕ} → (r + cond {A = ℕ} (in_window b at q) 1 0) % 2 ^ 32 ≡ held → r < 2 ^ 32 → WindowHolds (set counts q less) b at r
  unfolding window_sum
  window_less {at} {held} v q l less el {r} er small =
      record { places = length-set counts q less ∙ v.places; sum = go (three q (at - b)) (three q at) }
    where
      outside : ((n : ℕ) → n < at + 1 - (at - b) → at - b + n ≢ q) → in_window b at q ≡ false → r ≡ window_sum (set counts q less) b at % 2 ^ 32
      outside other out =
          let e : (r + 0) % 2 ^ 32 ≡ held = rw out at er in
          rw (sum_outside counts q less (at - b) (at + 1 - (at - b)) other) (omega (arith, v.sum, e, small))

      inside : at - b ≤ q → q ≤ at → r ≡ window_sum (set counts q less) b at % 2 ^ 32
      inside h g =
          let sums = rw (← el) at (sum_inside counts q less (at - b) (at + 1 - (at - b)) h (omega arith) (omega (arith, v.places))) in
          mod_less (window_sum counts b at) (window_sum (set counts q less) b at) less r sums (rw (in_window_lem b at q h g) at er ∙ v.sum) small

      go : Three q (at - b) → Three q at → r ≡ window_sum (set counts q less) b at % 2 ^ 32
      go (below h) _ = outside (λ n l z. omega arith) (before_window b at q h)
      go (equal h) (below g) = inside (omega arith) (omega arith)
      go (equal h) (equal g) = inside (omega arith) (omega arith)
      go (equal h) (above g) = absurd (omega arith)
      go (above h) (below g) = inside (omega arith) (omega arith)
      go (above h) (equal g) = inside (omega arith) (omega arith)
      go (above h) (above g) = outside (λ n l z. omega arith) (after_window b at q g)
