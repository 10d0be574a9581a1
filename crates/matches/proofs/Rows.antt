-- The row's matches by firsts and nexts: a row that has a used k-mer matches exactly the columns of its code, and any other row none.
-- Assumes nothing.
use mathlib.Core.Path.{◌≡◌, refl, sym, ◌∙◌}
use mathlib.Core.Bool.{true, false, ◌&&◌}
use mathlib.Core.List.{List}
use mathlib.Core.Logic.{⊎_elim}
use Prim.Native.Nat.{ℕ, zero, suc, ◌+◌, ◌-◌, ◌<◌, ◌≤◌}
use native.Mathlib.Omega.{arith}
use lib.ListN.{get_or, length, get_or-eq_default}
use lib.Dec.{eqb, ltb, leb}
use borrow.Author.Tests.{ltb-true, leb-true, eqb-true, lt-ltb, eq-eqb, le-leb, lt-leb}
use Rattle.rules.specs.Matches.{cell}
use Rattle.rules.specs.Codes.{code_at, code_total, code_match}
use Rattle.order.proofs.Cases.{le_or_lt, eq_or_ne, both_true, not_true}
use Rattle.ownership.proofs.Hits.{Hit, first_hit}
use Rattle.ownership.proofs.Owns.{own_none, own_first}
use Rattle.nexts.specs.Nexts.{NextColumns}
use Rattle.matches.specs.Columns.{first_column, FirstColumns}
use Rattle.matches.specs.Walks.{NextMatch, none_left, next_is, RowWalk}
use Rattle.nexts.proofs.Links.{next_first}

-- ---- a match as facts

record Meets (first second : List ℕ) (a i j : ℕ) : Type 0 where
  pub kmer : 0 < code_at first i
  pub same : code_at first i ≡ code_at second j
  pub used : code_total first second (code_at first i) ≤ a

match_true : {first second : List ℕ} {a i j : ℕ} → Meets first second a i j → code_match first second a (cell i j) ≡ true
unfolding code_match
match_true {first} {second} {a} {i} {j} m =
    let c : ℕ = code_at first i in
    rw (lt-ltb 0 c m.kmer, eq-eqb c (code_at second j) m.same, le-leb (code_total first second c) a m.used)

match_meets : {first second : List ℕ} {a i j : ℕ} → code_match first second a (cell i j) ≡ true → Meets first second a i j
unfolding code_match
match_meets {first} {second} {a} {i} {j} e =
    let c : ℕ = code_at first i in
    let t : ℕ = code_total first second c in
    let f = both_true (ltb 0 c && eqb c (code_at second j)) (leb t a) e in
    let g = both_true (ltb 0 c) (eqb c (code_at second j)) f.0 in
    record { kmer = ltb-true 0 c g.0; same = eqb-true c (code_at second j) g.1; used = leb-true t a f.1 }

match_false : {first second : List ℕ} {a i j : ℕ} → (Meets first second a i j → ⊥) → code_match first second a (cell i j) ≡ false
match_false {first} {second} {a} {i} {j} non = not_true (code_match first second a (cell i j)) (λ e. non (match_meets e))

code_at_lem : (codes : List ℕ) (j : ℕ) → 0 < j → code_at codes j ≡ get_or codes (j - 1) 0
unfolding code_at
code_at_lem codes zero l = absurd (omega arith)
code_at_lem codes (suc p) l = let back : suc p - 1 ≡ p = omega arith in rw back

kmer_inside : (codes : List ℕ) (p : ℕ) → (get_or codes p 0 ≡ 0 → ⊥) → p < length codes
kmer_inside codes p nz =
    ⊎_elim
    (λ (l : length codes ≤ p). absurd (nz (get_or-eq_default codes 0 l)))
    (λ (l : p < length codes). l)
    (le_or_lt (length codes) p)

-- ---- the next match of a row

no_match : {first second : List ℕ} {a i j : ℕ} → ((q : ℕ) → Meets first second a i q → ⊥)
    → NextMatch (code_match first second a) i (length second) j 0
no_match non = none_left refl (λ q l m. match_false (non q))

-- the next column of the row's code is the row's next match
hit_match : (first : List ℕ) {second : List ℕ} {a i j r : ℕ} → 0 < code_at first i → code_total first second (code_at first i) ≤ a
    → Hit second (code_at first i) j (length second) r → NextMatch (code_match first second a) i (length second) j r
hit_match first {second} {a} {i} {j} {r} kmer used h =
    ⊎_elim
    (λ (z : r ≤ 0). none_left (omega arith) (λ q l m. match_false (λ x. omega (arith, (met q l m x).0))))
    (λ (z : 0 < r).
    next_is (h.after z) h.within
    (match_true (record { kmer = kmer; same = sym (code_at_lem second r z ∙ h.here z); used = used }))
    (λ q l m. match_false (λ x. omega (arith, (met q l (omega (arith, h.within)) x).1))))
    (le_or_lt r 0)
  where
    met : (q : ℕ) → j < q → q ≤ length second → Meets first second a i q → (0 < r) × (r ≤ q - 1 + 1)
    met q l m x = h.before (q - 1) (omega arith) (omega arith) (sym (code_at_lem second q (omega arith)) ∙ sym x.same)

-- what the first column of a row is: its first match
first_match : (first second : List ℕ) (a i : ℕ) → NextMatch (code_match first second a) i (length second) 0 (first_column first second a i)
unfolding first_column
first_match first second a i =
    let c : ℕ = code_at first i in
    let t : ℕ = code_total first second c in
    ⊎_elim
    (λ (u : t ≤ a).
    rw (le-leb t a u)
    (⊎_elim
    (λ (z : c ≡ 0). rw (sym (own_none second z)) (no_match (λ q m. omega (arith, m.kmer))))
    (λ (z : c ≡ 0 → ⊥). rw (sym (own_first second z)) (hit_match first (omega arith) u (first_hit second c 0 (length second))))
    (eq_or_ne c 0)))
    (λ (u : a < t). rw (lt-leb t a u) (no_match (λ q m. omega (arith, m.used))))
    (le_or_lt t a)

-- what the next column of a match is: the row's next match
next_match : {first second : List ℕ} {a : ℕ} {nexts₀ nexts : List ℕ} {i j : ℕ} → NextColumns second nexts₀ nexts
    → Meets first second a i (suc j) → NextMatch (code_match first second a) i (length second) (suc j) (get_or nexts j 0)
unfolding code_at
next_match {first} {second} {a} {nexts₀} {nexts} {i} {j} n m =
    let c : ℕ = code_at first i in
    let kmer : 0 < c = m.kmer in
    let same : c ≡ get_or second j 0 = m.same in
    let nz : get_or second j 0 ≡ 0 → ⊥ = λ z. omega arith in
    let inside : j < length second = kmer_inside second j nz in
    rw (n.columns j inside, next_first second j nz, sym same) (hit_match first kmer m.used (first_hit second c (suc j) (length second)))

-- THE THEOREM of a row: it begins at its first match, and nexts leads from each match to the next
pub row_walk : {first second : List ℕ} {a : ℕ} {firsts₀ firsts nexts₀ nexts : List ℕ} → FirstColumns first second a firsts₀ firsts
    → NextColumns second nexts₀ nexts
    → (p : ℕ) → p < length first → RowWalk (code_match first second a) (suc p) (length second) (get_or firsts p 0) nexts
row_walk {first} {second} {a} f n p l = record {
  begins = rw (f.rows p l) (first_match first second a (suc p));
  follows = λ j e. next_match n (match_meets e);
}
