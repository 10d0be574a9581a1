-- Owners set to 0: a row whose count had passed a before it, while rows are counted, and every row whose count has passed a at the end.
-- Assumes nothing.
use mathlib.Core.Path.{◌≡◌, refl, sym, ◌∙◌}
use mathlib.Core.Bool.{Bool, true, false, cond, ◌||◌}
use mathlib.Core.List.{List}
use mathlib.Core.Logic.{⊎_elim}
use Prim.Native.Nat.{ℕ, suc, ◌+◌, ◌-◌, ◌<◌, ◌≤◌, min}
use native.Mathlib.Omega.{arith}
use lib.ListN.{get_or, length, set, length-set}
use lib.Dec.{eqb}
use borrow.Author.Tests.{lt-leb, le-leb, eq-eqb, ne_eqb}
use lib.Seq.{get_or-set_same}
use Rattle.order.specs.Counts.{count_in}
use Rattle.order.proofs.Cases.{le_or_lt, eq_or_ne, true_not_false, after_set}
use Rattle.order.proofs.Counts.{count_grows}
use Rattle.totals.specs.Steps.{Upto, Tallied, Rewritten, unless_above, struck_at, Struck, capped_at, Capped, NonePasses, OnePasses}
use Rattle.totals.proofs.Counting.{count_below, tallied_start, tallied_skip, owner_counted, count_small, tallied_next, tallied_ended}

unless_below : {a m : ℕ} (e : ℕ) → m ≤ a → e ≡ unless_above a m e
unfolding unless_above
unless_below {a} {m} e l = rw (le-leb m a l)

unless_above_lem : {a m : ℕ} (e : ℕ) → a < m → 0 ≡ unless_above a m e
unfolding unless_above
unless_above_lem {a} {m} e l = rw (lt-leb m a l)

unless_none : (a m : ℕ) {e : ℕ} → e ≤ 0 → e ≡ unless_above a m e
unless_none a m {e} z = ⊎_elim (λ l. unless_below e l) (λ l. let z₀ : e ≡ 0 = omega arith in z₀ ∙ unless_above_lem e l) (le_or_lt m a)

unless_upto : (a m : ℕ) {e k : ℕ} → e ≤ k → unless_above a m e ≤ k
unless_upto a m {e} {k} l = ⊎_elim (λ h. omega (arith, unless_below e h)) (λ h. omega (arith, unless_above_lem e h)) (le_or_lt m a)

-- two counts that pass a together leave the same
pub unless_alike : (a m k : ℕ) {e : ℕ} → (0 < e → a < m → a < k) → (0 < e → m ≤ a → k ≤ a) → unless_above a m e ≡ unless_above a k e
unless_alike a m k {e} above below =
    ⊎_elim
    (λ (z : e ≤ 0). sym (unless_none a m z) ∙ unless_none a k z)
    (λ (z : 0 < e).
    ⊎_elim
    (λ (l : m ≤ a). sym (unless_below e l) ∙ unless_below e (below z l))
    (λ (l : a < m). sym (unless_above_lem e l) ∙ unless_above_lem e (above z l))
    (le_or_lt m a))
    (le_or_lt e 0)

none_rewritten : {f : ℕ → ℕ} {l : List ℕ} → Rewritten f l l 0
none_rewritten = record { long = refl; each = λ p l. absurd (omega arith); others = λ p l. refl }

-- r is the owner read at n
module _ {f : ℕ → ℕ} {l₀ l : List ℕ} {n r : ℕ} (e : r ≡ get_or l n 0) (o : Rewritten f l₀ l n) where
  not_yet : r ≡ get_or l₀ n 0
  not_yet = e ∙ o.others n (omega arith)

  kept : r ≡ f n → Rewritten f l₀ l (n + 1)
  kept same = record {
    long = o.long;
    each = λ p k.
        ⊎_elim
        (λ (q : p ≡ n). rw q (sym e ∙ same))
        (λ (q : p ≡ n → ⊥). o.each p (omega arith))
        (eq_or_ne p n);
    others = λ p k. o.others p (omega arith);
  }

  zeroed : n < length l → 0 ≡ f n → Rewritten f l₀ (set l n 0) (n + 1)
  zeroed inside none = record {
    long = length-set l n 0 ∙ o.long;
    each = after_set (λ p x. p < n + 1 → x ≡ f p) l n 0 inside
        (λ _. none)
        (λ p q h. o.each p (omega arith));
    others = after_set (λ p x. n + 1 ≤ p → x ≡ get_or l₀ p 0) l n 0 inside
        (λ h. absurd (omega arith))
        (λ p q h. o.others p (omega arith));
  }

-- ---- while rows are counted

pub or_cond : (before here : Bool) → (before || here) ≡ cond here true before
or_cond true true = refl
or_cond true false = refl
or_cond false true = refl
or_cond false false = refl

-- the first n rows are counted; `late` says whether a k-mer has passed a at one of them
pub record RowsCounted (a : ℕ) (firsts₀ count₀ firsts count : List ℕ) (late : Bool) (n : ℕ) : Type 0 where
  pub tallied : Tallied firsts₀ n a count₀ count
  pub struck : Struck count₀ a firsts₀ firsts n
  pub none_late : late ≡ false → NonePasses a count₀ count
  pub one_late : late ≡ true → OnePasses a count₀ count

pub rows_start : {a : ℕ} {firsts count : List ℕ} → Upto count (length count) (min 16384 (a + 1)) → RowsCounted a firsts count firsts count false 0
rows_start u = record {
  tallied = tallied_start u;
  struck = record { rows = none_rewritten };
  none_late = λ _. record { passed_before = λ q l. l };
  one_late = λ e. absurd (true_not_false (sym e));
}

strikes : (count : List ℕ) (a : ℕ) (firsts : List ℕ) (n : ℕ) {r : ℕ} → r ≡ get_or firsts n 0
    → unless_above a (get_or count (r - 1) 0 + count_in firsts r n) r ≡ struck_at count a firsts n
unfolding struck_at
strikes count a firsts n e = rw e

-- one turn, from n to k: r is the owner read at n
module _ {a : ℕ} {firsts₀ count₀ firsts count : List ℕ} {late : Bool} {n r : ℕ} (e : r ≡ get_or firsts n 0)
    (o : RowsCounted a firsts₀ count₀ firsts count late n) where
  e₀ : r ≡ get_or firsts₀ n 0
  e₀ = not_yet e o.struck.rows

  strikes_here : unless_above a (get_or count₀ (r - 1) 0 + count_in firsts₀ r n) r ≡ struck_at count₀ a firsts₀ n
  strikes_here = strikes count₀ a firsts₀ n e₀

  pub row_empty : {k : ℕ} → k ≡ n + 1 → r ≤ 0 → RowsCounted a firsts₀ count₀ firsts count late k
  row_empty next z = rw next (record {
    tallied = tallied_skip e₀ o.tallied z;
    struck = record { rows = kept e o.struck.rows (unless_none a (get_or count₀ (r - 1) 0 + count_in firsts₀ r n) z ∙ strikes_here) };
    none_late = o.none_late;
    one_late = o.one_late;
  })

  module _ (z : 0 < r) {m : ℕ} (more : n < m) (bound : Upto firsts₀ m (length count₀)) where
    pub row_owner : r - 1 < length count
    row_owner = owner_counted e₀ o.tallied z more bound

    pub row_small : m ≤ 16384 → Upto count₀ (length count₀) (min 16384 (a + 1)) → get_or count (r - 1) 0 ≤ 32767
    row_small few u = count_small e₀ o.tallied z more bound few u

    so_far : get_or count (r - 1) 0 ≡ min (get_or count₀ (r - 1) 0 + count_in firsts₀ r n) (a + 1)
    so_far = let back : suc (r - 1) ≡ r = omega arith in rw back at (o.tallied.sums.each (r - 1) row_owner)

    pub row_struck : {k : ℕ} → k ≡ n + 1 → n < length firsts → a < get_or count (r - 1) 0 → RowsCounted a firsts₀ count₀ (set firsts n 0) count late k
    row_struck next inside above = rw next (record {
      tallied = tallied_ended e₀ o.tallied z more bound above;
      struck = record { rows = zeroed e o.struck.rows inside (unless_above_lem r (omega (arith, so_far)) ∙ strikes_here) };
      none_late = o.none_late;
      one_late = o.one_late;
    })

    -- a count that is a passes here, and no other does
    module _ {late' : Bool} (below : get_or count (r - 1) 0 ≤ a) (says : late' ≡ cond (eqb (get_or count (r - 1) 0) a) true late) where
      none_passes : late' ≡ false → NonePasses a count₀ (set count (r - 1) (get_or count (r - 1) 0 + 1))
      none_passes never =
          ⊎_elim
          (λ (h : get_or count (r - 1) 0 ≡ a). absurd (true_not_false (sym (rw (eq-eqb (get_or count (r - 1) 0) a h) at says) ∙ never)))
          (λ (h : get_or count (r - 1) 0 ≡ a → ⊥). record {
            passed_before = after_set (λ p x. a < x → a < get_or count₀ p 0) count (r - 1) (get_or count (r - 1) 0 + 1) row_owner
                (λ l. absurd (omega arith))
                (λ p other l. (o.none_late (sym (rw (ne_eqb (get_or count (r - 1) 0) a h) at says) ∙ never)).passed_before p l);
          })
          (eq_or_ne (get_or count (r - 1) 0) a)

      one_passes : late' ≡ true → OnePasses a count₀ (set count (r - 1) (get_or count (r - 1) 0 + 1))
      one_passes once =
          ⊎_elim
          (λ (h : get_or count (r - 1) 0 ≡ a).
          record {
            index = r - 1;
            not_before = omega (arith, so_far);
            after = rw (get_or-set_same count (r - 1) (get_or count (r - 1) 0 + 1) 0 row_owner) (omega arith);
          })
          (λ (h : get_or count (r - 1) 0 ≡ a → ⊥).
          let one = o.one_late (sym (rw (ne_eqb (get_or count (r - 1) 0) a h) at says) ∙ once) in
          let q : ℕ = one.index in
          record {
            index = q;
            not_before = one.not_before;
            after = after_set (λ p x. a < get_or count p 0 → a < x) count (r - 1) (get_or count (r - 1) 0 + 1) row_owner
                (λ l. omega arith)
                (λ p other l. l) q one.after;
          })
          (eq_or_ne (get_or count (r - 1) 0) a)

      pub row_counted : {k v : ℕ} → k ≡ n + 1 → v ≡ get_or count (r - 1) 0 + 1 → RowsCounted a firsts₀ count₀ firsts (set count (r - 1) v) late' k
      row_counted next one_more = rw (next, one_more) (record {
        tallied = rw (count_below below) (tallied_next e₀ o.tallied z more bound);
        struck = record { rows = kept e o.struck.rows (unless_below r (omega (arith, so_far)) ∙ strikes_here) };
        none_late = none_passes;
        one_late = one_passes;
      })

pub rows_end : {a : ℕ} {firsts₀ count₀ firsts count : List ℕ} {late : Bool} {j n : ℕ} → j ≤ n → n ≤ j
    → RowsCounted a firsts₀ count₀ firsts count late j → RowsCounted a firsts₀ count₀ firsts count late n
rows_end {j = j} {n = n} a b o = let e : j ≡ n = omega arith in rw (sym e) o

pub struck_upto : {count : List ℕ} {a : ℕ} {firsts₀ firsts : List ℕ} {n m : ℕ} → Struck count a firsts₀ firsts n → Upto firsts₀ n m → Upto firsts n m
unfolding struck_at
struck_upto {count} {a} {firsts₀} {firsts} {n} {m} o u = record {
  upto = λ p k.
      let e : ℕ = get_or firsts₀ p 0 in
      rw (o.rows.each p k) (unless_upto a (get_or count (e - 1) 0 + count_in firsts₀ e p) (u.upto p k));
}

-- ---- by the whole count

pub capped_start : {count : List ℕ} {a : ℕ} {firsts : List ℕ} → Capped count a firsts firsts 0
capped_start = record { rows = none_rewritten }

caps : (count : List ℕ) (a : ℕ) (firsts : List ℕ) (n : ℕ) {r : ℕ} → r ≡ get_or firsts n 0
    → unless_above a (get_or count (r - 1) 0) r ≡ capped_at count a firsts n
unfolding capped_at
caps count a firsts n e = rw e

module _ {count : List ℕ} {a : ℕ} {firsts₀ firsts : List ℕ} {n r : ℕ} (e : r ≡ get_or firsts n 0) (o : Capped count a firsts₀ firsts n) where
  says_cap : unless_above a (get_or count (r - 1) 0) r ≡ capped_at count a firsts₀ n
  says_cap = caps count a firsts₀ n (not_yet e o.rows)

  pub capped_in : {m k : ℕ} → n < m → Upto firsts₀ m k → r ≤ k
  capped_in l u = omega (arith, not_yet e o.rows, u.upto n l)

  pub capped_none : r ≤ 0 → Capped count a firsts₀ firsts (n + 1)
  capped_none z = record { rows = kept e o.rows (unless_none a (get_or count (r - 1) 0) z ∙ says_cap) }

  pub capped_used : get_or count (r - 1) 0 ≤ a → Capped count a firsts₀ firsts (n + 1)
  capped_used l = record { rows = kept e o.rows (unless_below r l ∙ says_cap) }

  pub capped_unused : n < length firsts → a < get_or count (r - 1) 0 → Capped count a firsts₀ (set firsts n 0) (n + 1)
  capped_unused inside l = record { rows = zeroed e o.rows inside (unless_above_lem r l ∙ says_cap) }

pub capped_end : {count : List ℕ} {a : ℕ} {firsts₀ firsts : List ℕ} {j n : ℕ} → j ≤ n → n ≤ j → Capped count a firsts₀ firsts j
    → Capped count a firsts₀ firsts n
capped_end {j = j} {n = n} a b o = let e : j ≡ n = omega arith in rw (sym e) o

-- ---- struck rows are capped

module _ {count₀ count : List ℕ} {a : ℕ} {firsts₀ firsts : List ℕ} {n : ℕ} (t : Tallied firsts₀ n a count₀ count) (bound : Upto firsts₀ n (length count₀))
    (o : Struck count₀ a firsts₀ firsts n) where
  -- what is struck at p has passed a in the end
  passed : (p : ℕ) → p < n → 0 < get_or firsts₀ p 0 → a < get_or count₀ (get_or firsts₀ p 0 - 1) 0 + count_in firsts₀ (get_or firsts₀ p 0) p
      → a < get_or count (get_or firsts₀ p 0 - 1) 0
  passed p l z above =
      let e : ℕ = get_or firsts₀ p 0 in
      let back : suc (e - 1) ≡ e = omega arith in
      let total = rw back at (t.sums.each (e - 1) (omega (arith, bound.upto p l, t.sums.long))) in
      omega (arith, total, count_grows firsts₀ e p n (omega arith))

  -- where none is late, struck rows are all that are to be capped
  pub all_struck : NonePasses a count₀ count → Capped count a firsts₀ firsts n
  unfolding struck_at capped_at
  all_struck none = record {
    rows = record {
      long = o.rows.long;
      each = λ p l.
          let e : ℕ = get_or firsts₀ p 0 in
          o.rows.each p l
          ∙ unless_alike a (get_or count₀ (e - 1) 0 + count_in firsts₀ e p) (get_or count (e - 1) 0) (passed p l) (λ z below.
          ⊎_elim (λ k. k) (λ k. absurd (omega (arith, none.passed_before (e - 1) k))) (le_or_lt (get_or count (e - 1) 0) a));
      others = o.rows.others;
    };
  }

  -- struck rows capped are rows capped
  pub struck_capped : {firsts₁ : List ℕ} → Capped count a firsts firsts₁ n → Capped count a firsts₀ firsts₁ n
  unfolding struck_at capped_at
  struck_capped c = record {
    rows = record {
      long = c.rows.long ∙ o.rows.long;
      each = λ p l. c.rows.each p l ∙ same p l (o.rows.each p l);
      others = λ p l. c.rows.others p l ∙ o.rows.others p l;
    };
  }
    where
      same : (p : ℕ) → p < n → {d : ℕ} → d ≡ struck_at count₀ a firsts₀ p
          → unless_above a (get_or count (d - 1) 0) d ≡ unless_above a (get_or count (get_or firsts₀ p 0 - 1) 0) (get_or firsts₀ p 0)
      same p l {d} struck =
          let e : ℕ = get_or firsts₀ p 0 in
          let m : ℕ = get_or count₀ (e - 1) 0 + count_in firsts₀ e p in
          ⊎_elim
          (λ (k : m ≤ a). let left : d ≡ e = struck ∙ sym (unless_below e k) in rw left)
          (λ (k : a < m).
          let none : d ≡ 0 = struck ∙ sym (unless_above_lem e k) in
          rw none
          (sym (unless_none a (get_or count (0 - 1) 0) (omega arith))
          ∙ ⊎_elim
          (λ (z : e ≤ 0). omega (arith, unless_none a (get_or count (e - 1) 0) z))
          (λ (z : 0 < e). unless_above_lem e (passed p l z k))
          (le_or_lt e 0)))
          (le_or_lt m a)
