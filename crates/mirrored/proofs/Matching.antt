-- THE MIRROR LAW at work: the columns found on a strand can be walked and lead to that strand's matches. Assumes nothing.
use mathlib.Core.Path.{◌≡◌, refl, sym, ap, subst, subst⁻¹, ◌∙◌}
use mathlib.Core.List.{List, reverse}
use Prim.Native.Nat.{ℕ, zero, suc, ◌≤◌}
use native.Mathlib.Omega.{arith}
use lib.ListN.{length}
use Rattle.rules.specs.declared.Settings.{Settings}
use Rattle.rules.specs.Letters.{reverse_complement, as_read}
use Rattle.rules.specs.Places.{places}
use Rattle.rules.specs.Matches.{matches_to}
use Rattle.rules.specs.Codes.{codes, code_match}
use Rattle.rules.specs.Strands.{on_strand}
use Rattle.rules.proofs.Kmers.{codes_length, match_by_code}
use Rattle.rules.proofs.Strands.{turned_places}
use Rattle.rules.proofs.Masks.{read_places, read_turned}
use Rattle.kmers.proofs.Codes.{places_few}
use Rattle.requests.specs.Index.{codes_of}
use Rattle.requests.proofs.Backwards.{mirrored_lists}
use Rattle.walks.specs.Matched.{coded_match, coded_matches}
use Rattle.walks.proofs.Matching.{Blank, CodesWalked, codes_walked, Matched, BothMatched, both_of}
use Rattle.mirrored.specs.Mirrored.{row_codes, column_codes, FirstFits, Columns, BothColumns}
use Rattle.mirrored.proofs.Rows.{row_count, column_count}

-- the test of a match on a strand, by these codes
module _ (c : Settings) (s t : List ℕ) where
  -- both sequences as they are read
  abbrev s' : List ℕ
  s' = as_read c.mask s

  abbrev t' : List ℕ
  t' = as_read c.mask t

  same_hits : (strand : ℕ)
      → code_match (row_codes c strand s) (column_codes strand (codes_of c.k c.mask t)) c.a ≡ coded_match c (codes c.k s') (on_strand strand t')
  unfolding row_codes column_codes codes_of coded_match on_strand
  same_hits zero = refl
  same_hits (suc n) =
      ap (λ (u : List ℕ). code_match (reverse (codes c.k u)) (reverse (codes c.k t')) c.a) (read_turned c.mask s)
      ∙ (λ i y. (sym (mirrored_lists c s' t' y) ∙ match_by_code c s' (reverse_complement t') y) i)

  strand_places : (strand : ℕ) → length (column_codes strand (codes_of c.k c.mask t)) ≡ places c.k (on_strand strand t')
  unfolding codes_of on_strand
  strand_places zero = column_count 0 (codes_of c.k c.mask t) ∙ codes_length c.k t'
  strand_places (suc n) = column_count (suc n) (codes_of c.k c.mask t) ∙ codes_length c.k t' ∙ sym (turned_places c.k t')

  rows_are : (strand : ℕ) → length (row_codes c strand s) ≡ length (codes c.k s')
  rows_are strand = row_count c strand s ∙ sym (codes_length c.k s' ∙ read_places c.mask c.k s)

  walked_matched : (strand : ℕ) {firsts nexts : List ℕ} → CodesWalked (row_codes c strand s) (column_codes strand (codes_of c.k c.mask t)) c.a firsts nexts
      → Matched c (codes c.k s') (on_strand strand t') firsts nexts (length (codes c.k s'))
  unfolding coded_matches
  walked_matched strand {firsts} {nexts} w =
      subst (Matched c (codes c.k s') (on_strand strand t') firsts nexts) (rows_are strand)
      (record {
        long = w.long;
        inside = w.inside;
        wide = w.wide;
        safe = w.safe;
        comes = w.comes ∙ (λ i. matches_to (same_hits strand i) (strand_places strand i) (length (row_codes c strand s)));
      })

-- THE THEOREM: in arrays that were blank
module _ {c : Settings} {s coded cols : List ℕ} (t : List ℕ) (ok : FirstFits c s coded) (few : length cols ≤ 16384) (e : cols ≡ codes_of c.k c.mask t) where
  pub columns_matched : (strand : ℕ) {firsts₀ nexts₀ firsts nexts : List ℕ} → Blank firsts₀ → Blank nexts₀ → Columns c strand s cols firsts₀ nexts₀ firsts nexts
      → Matched c coded (on_strand strand (as_read c.mask t)) firsts nexts (length coded)
  unfolding codes_of
  columns_matched strand {firsts₀} {nexts₀} {firsts} {nexts} bf bn m =
      let rows : length (row_codes c strand s) ≤ 16384 = omega (arith, row_count c strand s, places_few c.k s ok.some_base ok.short_first) in
      let columns : length (column_codes strand cols) ≤ 16384 = omega (arith, column_count strand cols, few) in
      let walked = codes_walked (row_codes c strand s) (column_codes strand cols) c.a rows columns firsts₀ nexts₀ firsts nexts bf bn m.first_columns m.next_columns in
      subst⁻¹ (λ (l : List ℕ). Matched c l (on_strand strand (as_read c.mask t)) firsts nexts (length l)) ok.coded_are
      (walked_matched c s t strand (subst (λ (l : List ℕ). CodesWalked (row_codes c strand s) (column_codes strand l) c.a firsts nexts) e walked))

  pub both_matched : {firsts₀ nexts₀ reverse-firsts₀ reverse-nexts₀ firsts nexts reverse-firsts reverse-nexts : List ℕ} {rows : ℕ}
      → Blank firsts₀ → Blank nexts₀ → Blank reverse-firsts₀ → Blank reverse-nexts₀
      → BothColumns c s coded cols firsts₀ nexts₀ reverse-firsts₀ reverse-nexts₀ firsts nexts reverse-firsts reverse-nexts rows
      → BothMatched c coded (as_read c.mask t) firsts nexts reverse-firsts reverse-nexts rows
  unfolding on_strand
  both_matched bf bn rf rn m =
      both_of m.rows_are (columns_matched 0 bf bn m.forward) (λ h. columns_matched 1 rf rn (m.reverse h))
      (λ z. (subst⁻¹ Blank (m.unasked z).0 rf, subst⁻¹ Blank (m.unasked z).1 rn))
