-- Where the codes are those of a first sequence, the outcomes from codes are those of the rules: the test of a match by codes is the test by letters.
-- Assumes nothing.
use mathlib.Core.Path.{◌≡◌, sym, ap, subst⁻¹, ◌∙◌}
use mathlib.Core.Bool.{Bool}
use mathlib.Core.List.{List, ◌++◌, append-nil}
use Prim.Native.Nat.{ℕ, ◌+◌}
use native.Mathlib.Omega.{arith}
use borrow.Author.Tests.{eq-eqb, ne_eqb}
use lib.ListN.{length}
use Rattle.rules.specs.declared.Settings.{Settings}
use Rattle.rules.specs.declared.Cell.{Cell}
use Rattle.rules.specs.Places.{places}
use Rattle.rules.specs.Matches.{is_match, matches, matches_to}
use Rattle.rules.specs.Codes.{codes}
use Rattle.rules.specs.Lists.{keep, sum_of, largest_to, largest_of, laid}
use Rattle.rules.specs.Records.{records_from, records}
use Rattle.rules.specs.Listing.{listing}
use Rattle.rules.specs.Rooms.{held, largest_run, pairs, match_total, work_need, link_total}
use Rattle.rules.specs.Strands.{on_strand, strand_numbers, strand_entries, entries, match_sum, larger_need, link_sum}
use Rattle.rules.specs.Answers.{comparing, compared_sweeps, stopped_sweep}
use Rattle.rules.proofs.Kmers.{codes_length, match_by_code}
use Rattle.rules.proofs.Strands.{one_strand, two_strands}
use Rattle.rules.proofs.Tests.{Three, below, equal, above, three}
use Rattle.walks.specs.Matched.{coded_match, coded_matches, reverse_rows}
use Rattle.strands.specs.Strands.{listing_of, entries_of, larger_of}
use Rattle.jobs.specs.Jobs.{compared_of}
use Rattle.sweep.specs.Sweeping.{run_of}
use Rattle.stopping.specs.Stopping.{stopped_of}
use Rattle.accepted.specs.Coded.{compared_coded, stopped_coded, needed_coded}

module _ (c : Settings) (s : List ℕ) where
  -- the matches in so many rows
  abbrev own_to : List ℕ → ℕ → List Cell
  own_to t rows = matches_to (is_match c s t) (places c.k t) rows

  same_test : (t : List ℕ) → is_match c s t ≡ coded_match c (codes c.k s) t
  unfolding coded_match
  same_test t = λ i y. match_by_code c s t y i

  own_matches : (t : List ℕ) (rows : ℕ) → coded_matches c (codes c.k s) t rows ≡ own_to t rows
  unfolding coded_matches
  own_matches t rows = ap (λ (hit : Cell → Bool). matches_to hit (places c.k t) rows) (sym (same_test t))

  own_rows : length (codes c.k s) ≡ places c.k s
  own_rows = codes_length c.k s

-- ---- the strands of a job

module _ (c : Settings) (s t : List ℕ) where
  -- what the matches of both strands come to
  record Sums (reverse : List Cell) (rows : ℕ) : Type 0 where
    listed : entries_of c (length t) (matches c s t) reverse ≡ entries c s t
    total : length (matches c s t) + length reverse ≡ match_sum c s t
    need : larger_of c.b (matches c s t) (places c.k s) reverse rows ≡ larger_need c s t
    links : pairs c.b (matches c s t) + pairs c.b reverse ≡ link_sum c s t

  sums_one : c.strand ≡ 0 → Sums (own_to c s (on_strand 1 t) 0) 0
  unfolding entries_of entries laid strand_entries strand_numbers listing_of listing records on_strand keep records_from matches_to larger_of largest_run largest_to largest_of pairs sum_of match_sum match_total larger_need work_need link_sum link_total
  sums_one e =
      record {
        listed = rw (one_strand c e);
        total = rw (one_strand c e) (omega arith);
        need = rw (one_strand c e) (omega arith);
        links = rw (one_strand c e) (omega arith);
      }

  sums_two : (c.strand ≡ 0 → ⊥) → Sums (own_to c s (on_strand 1 t) (places c.k s)) (places c.k s)
  unfolding entries_of entries laid strand_entries strand_numbers listing_of listing records on_strand matches larger_of largest_of sum_of match_sum match_total larger_need work_need link_sum link_total
  sums_two n =
      record {
        listed = rw (two_strands c n) (ap (λ (l : List (List ℕ)). strand_entries c s t 0 ++ l) (sym (append-nil (strand_entries c s t 1))));
        total = rw (two_strands c n) (omega arith);
        need = rw (two_strands c n) (omega arith);
        links = rw (two_strands c n) (omega arith);
      }

  abbrev rows : ℕ
  rows = reverse_rows c (length (codes c.k s))

  sums : Sums (own_to c s (on_strand 1 t) rows) rows
  unfolding reverse_rows
  sums = go (three c.strand 0)
    where
      go : Three c.strand 0 → Sums (own_to c s (on_strand 1 t) rows) rows
      go (below h) = absurd (omega arith)
      go (equal z) = subst⁻¹ (λ (n : ℕ). Sums (own_to c s (on_strand 1 t) n) n) (rw (eq-eqb c.strand 0 z)) (sums_one z)
      go (above h) =
          let n : c.strand ≡ 0 → ⊥ = λ z. omega arith in
          subst⁻¹ (λ (n : ℕ). Sums (own_to c s (on_strand 1 t) n) n) (rw (ne_eqb c.strand 0 n) (own_rows c s)) (sums_two n)

  forward_own : coded_matches c (codes c.k s) t (length (codes c.k s)) ≡ matches c s t
  unfolding matches
  forward_own = own_matches c s t (length (codes c.k s)) ∙ ap (own_to c s t) (own_rows c s)

  -- ---- the outcomes

  pub compared_own : (work list : List ℕ) → compared_coded c (codes c.k s) t work list ≡ compared_sweeps c s t work list
  unfolding compared_coded compared_of compared_sweeps
  compared_own work list =
      let back = own_matches c s (on_strand 1 t) rows in
      (λ i. compared_of c (length t) (forward_own i) (own_rows c s i) (back i) rows work list)
      ∙ (λ i. comparing (sums.listed i) (sums.total i) (sums.need i) (sums.links i) work list)

  pub needed_own : needed_coded c (codes c.k s) t ≡ larger_need c s t
  unfolding needed_coded
  needed_own =
      let back = own_matches c s (on_strand 1 t) rows in
      (λ i. larger_of c.b (forward_own i) (own_rows c s i) (back i) rows) ∙ sums.need

  pub stopped_own : (work : List ℕ) (row : ℕ) → stopped_coded c (codes c.k s) t work row ≡ stopped_sweep c s (on_strand c.strand t) work row
  unfolding stopped_coded stopped_of run_of stopped_sweep held records match_total work_need link_total matches
  stopped_own work row =
      let u = on_strand c.strand t in
      let own = own_matches c s u (length (codes c.k s)) ∙ ap (own_to c s u) (own_rows c s) in
      λ i. stopped_of c (own i) (own_rows c s i) work row
