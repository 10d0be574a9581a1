-- Totals by owner: owners count as codes do, so that columns and rows counted by owner are a code's total, and an owner that is left is the
-- row's first column. Assumes nothing.
use mathlib.Core.Path.{◌≡◌, refl, sym, ap, ◌∙◌}
use mathlib.Core.Bool.{cond}
use mathlib.Core.List.{List}
use mathlib.Core.Logic.{⊎_elim}
use Prim.Native.Nat.{ℕ, zero, suc, ◌+◌, ◌-◌, ◌<◌, ◌≤◌, min}
use native.Mathlib.Omega.{arith}
use lib.ListN.{get_or, length}
use lib.Dec.{eqb}
use borrow.Author.Tests.{lt-leb, le-leb}
use Rattle.rules.specs.Lists.{count_to}
use Rattle.rules.specs.Codes.{code_at, occurrences, code_total}
use Rattle.order.specs.Counts.{count_in}
use Rattle.order.proofs.Cases.{le_or_lt, eq_or_ne}
use Rattle.order.proofs.Counts.{count_zero, count_yes, count_no}
use Rattle.ownership.specs.Owners.{own_of, Owned}
use Rattle.ownership.proofs.Owns.{owner_of, same_owner}
use Rattle.matches.specs.Columns.{first_column, FirstColumns}
use Rattle.totals.specs.Steps.{Zeros, Upto, Tallied, unless_above, capped_at, Capped}
use Rattle.totals.proofs.Striking.{unless_alike}

-- the occurrences of `rules` are counts of the first places
count_occurrences : (codes : List ℕ) (c n : ℕ) → count_to (λ p. eqb (code_at codes p) c) n ≡ count_in codes c n
unfolding count_to code_at count_in
count_occurrences codes c zero = refl
count_occurrences codes c (suc n) = ap (λ (t : ℕ). t + cond (eqb (get_or codes n 0) c) 1 0) (count_occurrences codes c n)

pub total_counted : (first second : List ℕ) (c : ℕ)
    → code_total first second c ≡ count_in first c (length first) + count_in second c (length second)
unfolding code_total occurrences
total_counted first second c = omega (arith, count_occurrences first c (length first), count_occurrences second c (length second))

-- an owner is a column
pub owned_upto : {second codes own₀ own : List ℕ} {k n m : ℕ} → k ≤ n → length second ≤ m → Owned second codes own₀ own n → Upto own k m
owned_upto {second} {codes} h l o = record { upto = λ p b. omega (arith, o.owners p (omega arith), (owner_of second (get_or codes p 0)).within) }

-- owners count as codes do
own_count : {second codes own₀ own : List ℕ} {n : ℕ} → Owned second codes own₀ own n → (c : ℕ) → 0 < own_of second c → (m : ℕ) → m ≤ n
    → count_in own (own_of second c) m ≡ count_in codes c m
own_count {second} {codes} {own₀} {own} o c z zero l = count_zero own (own_of second c) ∙ sym (count_zero codes c)
own_count {second} {codes} {own₀} {own} o c z (suc m) l =
    let ih = own_count o c z m (omega arith) in
    let e : get_or own m 0 ≡ own_of second (get_or codes m 0) = o.owners m (omega arith) in
    ⊎_elim
    (λ (q : get_or codes m 0 ≡ c). omega (arith, ih, count_yes own (own_of second c) m (e ∙ ap (own_of second) q), count_yes codes c m q))
    (λ (q : get_or codes m 0 ≡ c → ⊥).
    let other : get_or own m 0 ≡ own_of second c → ⊥ = λ k. q (same_owner second z (sym e ∙ k)) in
    omega (arith, ih, count_no own (own_of second c) m other, count_no codes c m q))
    (eq_or_ne (get_or codes m 0) c)

-- owners of both, counted over columns and rows and capped
pub first_columns : {first second own₀ own firsts₀ firsts₁ firsts₂ count₀ count₁ count₂ : List ℕ} {a : ℕ}
    → Owned second second own₀ own (length second) → Owned second first firsts₀ firsts₁ (length first)
    → length second ≤ length count₀ → Zeros count₀
    → Tallied own (length second) a count₀ count₁ → Tallied firsts₁ (length first) a count₁ count₂ → Capped count₂ a firsts₁ firsts₂ (length first)
    → FirstColumns first second a firsts₀ firsts₂
unfolding first_column code_at capped_at unless_above
first_columns {first} {second} {own₀} {own} {firsts₀} {firsts₁} {firsts₂} {count₀} {count₁} {count₂} {a} oc of room z t u o = record {
  long = o.rows.long ∙ of.long;
  rows = λ p k.
      let c : ℕ = get_or first p 0 in
      let e : ℕ = own_of second c in
      o.rows.each p k
      ∙ rw (of.owners p k) (unless_alike a (get_or count₂ (e - 1) 0) (code_total first second c) (λ z l. omega (arith, counted c z))
      (λ z l. omega (arith, counted c z)));
  others = λ p k. o.rows.others p k ∙ of.others p k;
}
  where
    -- the owner's count is the total, as far as it was counted
    counted : (c : ℕ) → 0 < own_of second c → get_or count₂ (own_of second c - 1) 0 ≡ min (code_total first second c) (a + 1)
    counted c some =
        let q : ℕ = own_of second c - 1 in
        let back : suc q ≡ own_of second c = omega arith in
        let in₁ : q < length count₁ = omega (arith, (owner_of second c).within, t.sums.long) in
        let columns = rw back at (t.sums.each q in₁) in
        let rows = rw back at (u.sums.each q (omega (arith, u.sums.long))) in
        let counts = own_count oc c some (length second) (omega arith) in
        omega (arith, z.zeros q, columns, rows, counts, own_count of c some (length first) (omega arith), total_counted first second c)

-- first columns made of owners that were written over other numbers
pub firsts_over : {first second firsts₀ firsts₁ firsts₂ : List ℕ} {a : ℕ} → Owned second first firsts₀ firsts₁ (length first)
    → FirstColumns first second a firsts₁ firsts₂ → FirstColumns first second a firsts₀ firsts₂
firsts_over o f = record { long = f.long ∙ o.long; rows = f.rows; others = λ p l. f.others p l ∙ o.others p l }

-- every number of firsts is a column or 0, so that nexts may be read by it
pub firsts_within : {first second : List ℕ} {a : ℕ} {firsts₀ firsts : List ℕ} → FirstColumns first second a firsts₀ firsts → (p : ℕ)
    → p < length first → get_or firsts p 0 ≤ length second
unfolding first_column code_at
firsts_within {first} {second} {a} f p l = rw (f.rows p l)
    (let c : ℕ = get_or first p 0 in
    let t : ℕ = code_total first second c in
    ⊎_elim
    (λ (k : t ≤ a). rw (le-leb t a k) (owner_of second c).within)
    (λ (k : a < t). rw (lt-leb t a k) (omega arith))
    (le_or_lt t a))
