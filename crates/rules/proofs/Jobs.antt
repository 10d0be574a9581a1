-- Of every job: its list of matches, and its records, which have the heaviest weights and the starts. Assumes nothing.
use mathlib.Core.Path.{◌≡◌, subst⁻¹}
use mathlib.Core.Logic.{◌⊎◌, inl, inr}
use mathlib.Core.List.Memᴰ
use mathlib.Core.List.{List, [], map, Memᴰ}
use Prim.Native.Nat.{ℕ, ◌≤◌}
use lib.Dec.{T}
use Rattle.rules.specs.declared.Settings.{Settings}
use Rattle.rules.specs.Places.{places, kmer_at, same_kmer, total}
use Rattle.rules.specs.Matches.{Cell, is_match, matches}
use Rattle.rules.specs.Chains.{Chain, Heaviest, Start}
use Rattle.rules.specs.Records.{Record, record_of, records}
use Rattle.rules.proofs.Tests.{tests}
use Rattle.rules.proofs.Kmers.{kmer_place, same_sym}
use Rattle.rules.proofs.MatchList.{Inside, matches_in, matches_has, matches_ordered}
use Rattle.rules.proofs.Weights.{Right, sweep_right, sweep_cells}
use Rattle.rules.proofs.Starts.{right_heaviest, sweep_fixed, record_start}

module _ (c : Settings) (s t : List ℕ) where
  pub match_facts : (y : Cell) → T (is_match c s t y)
      → T (same_kmer (kmer_at c.k s y.row) (kmer_at c.k t y.column)) × (total c.k s t (kmer_at c.k s y.row) ≤ c.a)
  unfolding is_match
  match_facts y h = simp (is_match, tests) at h

  -- a match lies within the rows and columns
  pub match_inside : (y : Cell) → T (is_match c s t y) → Inside (is_match c s t) (places c.k t) (places c.k s) y
  match_inside y h =
      let x = kmer_at c.k s y.row in
      let z = kmer_at c.k t y.column in
      let same = (match_facts y h).0 in
      let r = kmer_place c.k s y.row z same in
      let q = kmer_place c.k t y.column x (same_sym x z same) in
      record { is_hit = h; row_from = r.0; row_until = r.1; column_from = q.0; column_until = q.1 }

  -- the list of matches holds exactly the matches
  pub match_in : (y : Cell) → Memᴰ y (matches c s t) → T (is_match c s t y)
  unfolding matches
  match_in y m = (matches_in (is_match c s t) (places c.k t) (places c.k s) y m).is_hit

  pub match_has : (y : Cell) → T (is_match c s t y) → Memᴰ y (matches c s t)
  unfolding matches
  match_has y h = matches_has (is_match c s t) (places c.k t) (places c.k s) y (match_inside y h)

  -- the records' cells are the matches, in order
  pub record_cells : map (λ (x : Record). x.cell) (records c s t) ≡ matches c s t
  unfolding records
  record_cells = sweep_cells c.b (is_match c s t) (matches c s t) []

  -- every record is right
  pub record_right : (x : Record) → Memᴰ x (records c s t) → Right c.b (is_match c s t) x
  unfolding records matches
  record_right =
      sweep_right c.b (is_match c s t) (matches c s t) [] (λ x m. absurd (Memᴰ.not-nil m)) (λ y h. inr (match_has y h)) match_in
      (matches_ordered (is_match c s t) (places c.k t) (places c.k s))

  -- every match has a record
  pub record_has : (y : Cell) → T (is_match c s t y) → (x : Record) × Memᴰ x (records c s t) × (x.cell ≡ y)
  record_has y h = Memᴰ.of_map (λ (x : Record). x.cell) (records c s t) (subst⁻¹ (λ (l : List Cell). Memᴰ y l) record_cells (match_has y h))

  -- each record is the one that all records give
  pub record_fixed : (x : Record) → Memᴰ x (records c s t) → x ≡ record_of c.b (records c s t) x.cell
  unfolding records matches
  record_fixed x m =
      fix (sweep_fixed c.b (matches c s t) [] (matches_ordered (is_match c s t) (places c.k t) (places c.k s)) x m)
    where
      fix : Memᴰ x [] ⊎ (x ≡ record_of c.b (records c s t) x.cell) → x ≡ record_of c.b (records c s t) x.cell
      fix (inl n) = absurd (Memᴰ.not-nil n)
      fix (inr e) = e

  -- THE THEOREMS. A record's weight is its match's heaviest, and its start is its match's start by predecessors and the first of a heaviest chain
  pub weight_heaviest : (x : Record) → Memᴰ x (records c s t) → Heaviest c.b (is_match c s t) x.cell x.weight
  weight_heaviest x m = right_heaviest (record_right x m)

  pub start_right : (x : Record) → Memᴰ x (records c s t) → Start c.b (is_match c s t) x.cell x.start
  start_right = record_start c.b (is_match c s t) (records c s t) record_right record_has record_fixed

  pub start_of_heaviest : (x : Record) → Memᴰ x (records c s t) → Chain c.b (is_match c s t) x.start x.cell x.weight
  start_of_heaviest x m = (record_right x m).reached
