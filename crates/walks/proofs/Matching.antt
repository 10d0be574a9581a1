-- The walks over columns are those of the matches: they are told from codes alone. Assumes nothing.
use mathlib.Core.Path.{◌≡◌, refl, sym, ap, subst⁻¹, ◌∙◌}
use mathlib.Core.List.{List}
use mathlib.Core.Logic.{⊎_elim}
use Prim.Native.Nat.{ℕ, suc, ◌≤◌, ◌<◌}
use native.Mathlib.Omega.{arith}
use borrow.Author.Tests.{eq-eqb, ne_eqb}
use lib.ListN.{length, get_or, take, get_or-eq_default}
use lib.Seq.{get_or-take, length-take-le}
use Rattle.rules.specs.declared.Settings.{Settings}
use Rattle.rules.specs.Matches.{matches_to}
use Rattle.rules.specs.Codes.{codes, code_match}
use Rattle.rules.specs.Strands.{on_strand}
use Rattle.rules.proofs.Tests.{Three, below, equal, above, three}
use Rattle.rules.proofs.Kmers.{codes_length}
use Rattle.order.proofs.Cases.{eq_or_ne}
use Rattle.kmers.proofs.Codes.{places_few}
use Rattle.nexts.specs.Nexts.{NextColumns}
use Rattle.matches.specs.Columns.{FirstColumns}
use Rattle.matches.specs.Walks.{RowWalk, walked_to, walked, WalkSafe}
use Rattle.matches.proofs.Walked.{described_same}
use Rattle.matches.proofs.Totals.{firsts_within}
use Rattle.nexts.proofs.Links.{nexts_within, nexts_rise}
use Rattle.matches.proofs.Rows.{row_walk}
use Rattle.walks.specs.Matched.{coded_match, coded_matches, reverse_rows, Fits, Columns, BothColumns}
use Rattle.walks.proofs.Turning.{strand_fits}

-- as many zeros as a sequence can have places
pub record Blank (l : List ℕ) : Type 0 where
  pub long : length l ≡ 16384
  pub empty : (p : ℕ) → get_or l p 0 ≡ 0

-- so many rows and the columns can be walked, and the walks come to the matches
pub record Matched (c : Settings) (coded second firsts nexts : List ℕ) (rows : ℕ) : Type 0 where
  pub long : rows ≡ length (take rows firsts)
  pub inside : rows ≤ length firsts
  pub wide : length nexts ≡ 16384
  pub safe : WalkSafe (take rows firsts) nexts
  pub comes : walked (take rows firsts) nexts ≡ coded_matches c coded second rows

-- on both strands
pub record BothMatched (c : Settings) (coded second firsts nexts reverse-firsts reverse-nexts : List ℕ) (rows : ℕ) : Type 0 where
  pub forward : Matched c coded second firsts nexts (length coded)
  pub rows_are : rows ≡ reverse_rows c (length coded)
  pub reverse : Matched c coded (on_strand 1 second) reverse-firsts reverse-nexts rows

-- the same of any two lists of codes
pub record CodesWalked (xs ys : List ℕ) (a : ℕ) (firsts nexts : List ℕ) : Type 0 where
  pub long : length xs ≡ length (take (length xs) firsts)
  pub inside : length xs ≤ length firsts
  pub wide : length nexts ≡ 16384
  pub safe : WalkSafe (take (length xs) firsts) nexts
  pub comes : walked (take (length xs) firsts) nexts ≡ matches_to (code_match xs ys a) (length ys) (length xs)

module _ (xs ys : List ℕ) (a : ℕ) (few_rows : length xs ≤ 16384) (few_columns : length ys ≤ 16384) (firsts₀ nexts₀ firsts nexts : List ℕ) (bf : Blank firsts₀)
    (bn : Blank nexts₀) (f : FirstColumns xs ys a firsts₀ firsts) (n : NextColumns ys nexts₀ nexts) where
  abbrev rows : ℕ
  rows = length xs

  abbrev columns : ℕ
  columns = length ys

  front_length : length (take rows firsts) ≡ rows
  front_length = length-take-le rows firsts (omega (arith, f.long, bf.long))

  walks : (p : ℕ) → p < length (take rows firsts) → RowWalk (code_match xs ys a) (suc p) columns (get_or (take rows firsts) p 0) nexts
  walks p h =
      let l = front_length in
      subst⁻¹ (λ (q : ℕ). RowWalk (code_match xs ys a) (suc p) columns q nexts) (get_or-take rows firsts p 0 (omega arith)) (row_walk f n p (omega arith))

  starts : (p : ℕ) → Three p rows → get_or (take rows firsts) p 0 ≤ length nexts
  starts p (below h) = omega (arith, get_or-take rows firsts p 0 h, firsts_within f p h, bn.long, n.long)
  starts p (equal h) = let e = get_or-eq_default (take rows firsts) 0 {n = p} (let l = front_length in omega arith) in omega arith
  starts p (above h) = let e = get_or-eq_default (take rows firsts) 0 {n = p} (let l = front_length in omega arith) in omega arith

  beyond_zero : (q : ℕ) → columns ≤ q → get_or nexts q 0 ≡ 0
  beyond_zero q h = n.others q h ∙ bn.empty q

  inside : (q : ℕ) → Three q columns → get_or nexts q 0 ≤ length nexts
  inside q (below h) = omega (arith, nexts_within n q h, bn.long, n.long)
  inside q (equal h) = let e = beyond_zero q (omega arith) in omega arith
  inside q (above h) = let e = beyond_zero q (omega arith) in omega arith

  rising : (q : ℕ) → Three q columns → 1 ≤ get_or nexts q 0 → suc q < get_or nexts q 0
  rising q (below h) l = nexts_rise n q h l
  rising q (equal h) l = let e = beyond_zero q (omega arith) in absurd (omega arith)
  rising q (above h) l = let e = beyond_zero q (omega arith) in absurd (omega arith)

  safe : WalkSafe (take rows firsts) nexts
  safe =
      let wide = n.long ∙ bn.long in
      record {
        few_rows = (let l = front_length in omega arith);
        starts = λ p. starts p (three p rows);
        nexts_safe = record { few_columns = omega arith; inside = λ q. inside q (three q columns); rising = λ q. rising q (three q columns) };
      }

  comes : walked (take rows firsts) nexts ≡ matches_to (code_match xs ys a) columns rows
  unfolding walked
  comes =
      let l = front_length in
      ap (walked_to (take rows firsts) nexts) l ∙ sym (described_same safe (record { rows = walks; narrow = few_columns }) rows (omega arith))

  pub codes_walked : CodesWalked xs ys a firsts nexts
  codes_walked =
      record { long = sym front_length; inside = omega (arith, f.long, bf.long); wide = n.long ∙ bn.long; safe = safe; comes = comes }

-- THE THEOREM: in arrays that were blank, the columns can be walked and lead to the matches
pub columns_matched : {c : Settings} {coded t firsts₀ nexts₀ firsts nexts : List ℕ} → Fits c coded t → Blank firsts₀ → Blank nexts₀
    → Columns c coded t firsts₀ nexts₀ firsts nexts → Matched c coded t firsts nexts (length coded)
unfolding coded_matches coded_match
columns_matched {c} {coded} {t} {firsts₀} {nexts₀} {firsts} {nexts} ok bf bn m =
    let size = codes_length c.k t in
    let few = places_few c.k t ok.some_base ok.short_second in
    let w = codes_walked coded (codes c.k t) c.a ok.few_rows (omega arith) firsts₀ nexts₀ firsts nexts bf bn m.first m.next in
    record {
      long = w.long;
      inside = w.inside;
      wide = w.wide;
      safe = w.safe;
      comes = w.comes ∙ ap (λ (n : ℕ). matches_to (code_match coded (codes c.k t) c.a) n (length coded)) size;
    }

-- a blank strand has no rows to walk
none_matched : {c : Settings} {coded u firsts nexts : List ℕ} → Blank firsts → Blank nexts → Matched c coded u firsts nexts 0
unfolding coded_matches walked walked_to matches_to
none_matched bf bn =
    let w = bn.long in
    record {
      long = refl;
      inside = omega arith;
      wide = w;
      safe =
          record {
            few_rows = omega arith;
            starts = λ p. omega arith;
            nexts_safe =
                record {
                  few_columns = omega arith;
                  inside = λ q. (let z = bn.empty q in omega arith);
                  rising = λ q h. absurd (let z = bn.empty q in omega arith);
                };
          };
      comes = refl;
    }

-- on both strands, where the reverse strand's arrays are blank if it is not asked for
pub both_of : {c : Settings} {coded t firsts nexts reverse-firsts reverse-nexts : List ℕ} {rows : ℕ} → rows ≡ reverse_rows c (length coded)
    → Matched c coded t firsts nexts (length coded) → ((c.strand ≡ 0 → ⊥) → Matched c coded (on_strand 1 t) reverse-firsts reverse-nexts (length coded))
    → (c.strand ≡ 0 → Blank reverse-firsts × Blank reverse-nexts) → BothMatched c coded t firsts nexts reverse-firsts reverse-nexts rows
unfolding reverse_rows
both_of {c} {coded} {t} {reverse-firsts = reverse-firsts} {reverse-nexts = reverse-nexts} {rows = rows} e forward reverse blank =
    record { forward = forward; rows_are = e; reverse = back }
  where
    back : Matched c coded (on_strand 1 t) reverse-firsts reverse-nexts rows
    back =
        ⊎_elim
        (λ (z : c.strand ≡ 0).
        let none : rows ≡ 0 = e ∙ rw (eq-eqb c.strand 0 z) in
        subst⁻¹ (Matched c coded (on_strand 1 t) reverse-firsts reverse-nexts) none (none_matched (blank z).0 (blank z).1))
        (λ (n : c.strand ≡ 0 → ⊥).
        let all : rows ≡ length coded = e ∙ rw (ne_eqb c.strand 0 n) in
        subst⁻¹ (Matched c coded (on_strand 1 t) reverse-firsts reverse-nexts) all (reverse n))
        (eq_or_ne c.strand 0)

pub both_matched : {c : Settings} {coded t firsts₀ nexts₀ reverse-firsts₀ reverse-nexts₀ firsts nexts reverse-firsts reverse-nexts : List ℕ} {rows : ℕ}
    → Fits c coded t → Blank firsts₀ → Blank nexts₀ → Blank reverse-firsts₀ → Blank reverse-nexts₀
    → BothColumns c coded t firsts₀ nexts₀ reverse-firsts₀ reverse-nexts₀ firsts nexts reverse-firsts reverse-nexts rows
    → BothMatched c coded t firsts nexts reverse-firsts reverse-nexts rows
both_matched ok bf bn rf rn m =
    both_of m.rows_are (columns_matched ok bf bn m.forward) (λ n. columns_matched (strand_fits 1 ok) rf rn (m.reverse n))
    (λ e. (subst⁻¹ Blank (m.unasked e).0 rf, subst⁻¹ Blank (m.unasked e).1 rn))

-- and on the strand that is named
pub strand_matched : {c : Settings} {coded t firsts₀ nexts₀ firsts nexts : List ℕ} → Fits c coded t → Blank firsts₀ → Blank nexts₀
    → Columns c coded (on_strand c.strand t) firsts₀ nexts₀ firsts nexts → Matched c coded (on_strand c.strand t) firsts nexts (length coded)
strand_matched {c} {coded} {t} ok bf bn m = columns_matched (strand_fits c.strand ok) bf bn m
