-- Counts, struck rows and capped rows are fixed: every number is, by a definition or as it was. Assumes nothing.
use mathlib.Core.Path.{◌≡◌, refl, sym, ◌∙◌}
use mathlib.Core.Bool.{Bool, true, false}
use mathlib.Core.List.{List}
use Prim.Native.Nat.{ℕ}
use native.Mathlib.Omega.{arith}
use lib.Seq.{ext_get_or}
use Rattle.order.proofs.Cases.{one_list}
use Rattle.totals.specs.Steps.{Tallied, Rewritten, Struck, Capped, NonePasses, OnePasses}

-- any two results of `totals::count_rows` and of `nexts::link_columns` are equal: the counts
pub tallied_one : {own : List ℕ} {n a : ℕ} {count₀ x y : List ℕ} → Tallied own n a count₀ x → Tallied own n a count₀ y → x ≡ y
tallied_one {x = x} {y = y} f g =
    let lx = f.sums.long in
    let ly = g.sums.long in
    ext_get_or 0 x y (lx ∙ sym ly) (λ q h. f.sums.each q h ∙ sym (g.sums.each q (omega arith)))

rewritten_one : {f : ℕ → ℕ} {l x y : List ℕ} {n : ℕ} → Rewritten f l x n → Rewritten f l y n → x ≡ y
rewritten_one {n = n} a b = one_list n a.long b.long (λ p l. a.each p l ∙ sym (b.each p l)) (λ p l. a.others p l ∙ sym (b.others p l))

-- any two results of `totals::count_rows` are equal: the rows
pub struck_one : {count : List ℕ} {a : ℕ} {firsts x y : List ℕ} {n : ℕ} → Struck count a firsts x n → Struck count a firsts y n → x ≡ y
struck_one a b = rewritten_one a.rows b.rows

-- any two results of `totals::count_rows` are equal: what it returns, since not both can hold
pub passes_one : {a : ℕ} {count₀ count : List ℕ} {r s : Bool} → (r ≡ false → NonePasses a count₀ count) → (r ≡ true → OnePasses a count₀ count)
    → (s ≡ false → NonePasses a count₀ count) → (s ≡ true → OnePasses a count₀ count) → r ≡ s
passes_one {a} {count₀} {count} {r} {s} rf rt sf st = go r s rf rt sf st
  where
    never : NonePasses a count₀ count → OnePasses a count₀ count → ⊥
    never n o = omega (arith, n.passed_before o.index o.after, o.not_before)

    go : (r s : Bool) → (r ≡ false → NonePasses a count₀ count) → (r ≡ true → OnePasses a count₀ count) → (s ≡ false → NonePasses a count₀ count)
        → (s ≡ true → OnePasses a count₀ count) → r ≡ s
    go true true rf rt sf st = refl
    go false false rf rt sf st = refl
    go true false rf rt sf st = absurd (never (sf refl) (rt refl))
    go false true rf rt sf st = absurd (never (rf refl) (st refl))

-- any two results of `totals::cap` are equal
pub capped_one : {count : List ℕ} {a : ℕ} {firsts x y : List ℕ} {n : ℕ} → Capped count a firsts x n → Capped count a firsts y n → x ≡ y
capped_one a b = rewritten_one a.rows b.rows
