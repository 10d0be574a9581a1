-- Every number of an answer fits its field in a frame: places are at most 16,384, weights at most 32,768, matches at most 2^28. Assumes nothing.
use mathlib.Core.Path.{◌≡◌, refl, ap, ◌∙◌}
use mathlib.Core.Bool.{Bool, true, false, cond}
use mathlib.Core.List.{List, [], ◌∷◌, Memᴰ}
use Prim.Native.Nat.{ℕ, zero, suc, ◌+◌, ◌-◌, ◌≤◌, ◌<◌}
use native.Mathlib.Nat.{le_trans, mul-le-mul}
use native.Mathlib.Omega.{arith}
use lib.Dec.{eqb, ltb}
use lib.ListN.{length, length-map}
use borrow.Author.Tests.{lt-ltb, ltb-true, ltb-false}
use Rattle.rules.specs.declared.Settings.{Settings}
use Rattle.rules.specs.declared.Answer.{Answer}
use Rattle.rules.specs.declared.Cell.{Cell}
use Rattle.rules.specs.declared.Record.{Record}
use Rattle.rules.specs.Lists.{keep, count}
use Rattle.rules.specs.Letters.{bad_place}
use Rattle.rules.specs.Places.{places}
use Rattle.rules.specs.Matches.{is_match, matches}
use Rattle.rules.specs.Records.{records}
use Rattle.rules.specs.Listing.{listing, is_listed, ends, entry_numbers}
use Rattle.rules.specs.Rooms.{match_total, work_need, largest_run, in_run}
use Rattle.rules.specs.Strands.{on_strand, strands, turned, reverse_numbers, strand_numbers, strand_entries, entries, match_sum, larger_need}
use Rattle.rules.specs.Answers.{first_of, refusal, outside, checked}
use Rattle.rules.proofs.Tests.{by_test}
use Rattle.rules.proofs.ListLaws.{largest_to_le, largest_of_le, sum_of_le, count_length, laid_few}
use Rattle.rules.proofs.Bounds.{few_matches}
use Rattle.rules.proofs.Listings.{keep_in}
use Rattle.rules.proofs.Weights.{chain_hit, chain_grown}
use Rattle.rules.proofs.Jobs.{match_inside, start_of_heaviest}
use Rattle.rules.proofs.Strands.{entry_from}
use Rattle.rules.proofs.Theorems.{one_record_each}
use Rattle.letters.proofs.FirstBad.{bad_first}
use Rattle.refusals.specs.Accepted.{Accepted}
use Rattle.refusals.proofs.Checking.{turned_accepted}
use Rattle.kinds.specs.Kinds.{entry_fits}
use Rattle.output.specs.Output.{entry_of}

keep_few : {A : Type 0} (f : A → Bool) (xs : List A) → length (keep f xs) ≤ length xs
unfolding keep
keep_few f [] = omega arith
keep_few {A} f (x ∷ xs) =
    by_test (λ (l : List A). length l ≤ suc (length xs)) (f x) (x ∷ keep f xs) (keep f xs) (λ _. omega (arith, keep_few f xs))
    (λ _. omega (arith, keep_few f xs))

module _ (c : Settings) (s t : List ℕ) (ok : Accepted c s t) where
  few_rows : places c.k s ≤ 16384
  unfolding places
  few_rows = let k = ok.some_base in let l = ok.short_first in omega arith

  few_columns : places c.k t ≤ 16384
  unfolding places
  few_columns = let k = ok.some_base in let l = ok.short_second in omega arith

  matches_few : match_total c s t ≤ 268435456
  unfolding match_total matches
  matches_few = le_trans (few_matches (is_match c s t) (places c.k t) (places c.k s)) (mul-le-mul few_rows few_columns)

  W_few : work_need c s t ≤ 268435456
  unfolding work_need largest_run match_total
  W_few =
      le_trans (largest_to_le (λ i. count (in_run c.b i) (matches c s t)) (length (matches c s t)) (places c.k s)
      (λ i. count_length (in_run c.b i) (matches c s t))) matches_few

  listing_few : length (listing c s t) ≤ 268435456
  unfolding listing match_total
  listing_few =
      le_trans (keep_few (is_listed c (matches c s t)) (records c s t))
      (omega (arith, ap (λ (l : List Cell). length l) (one_record_each c s t), length-map (records c s t) (λ (x : Record). x.cell), matches_few))

  -- the numbers of an entry
  pub record Narrow (x : Record) : Type 0 where
    pub first_start : x.start.row < 65536
    pub first_end : x.cell.row + c.k - 1 < 65536
    pub second_start : x.start.column < 65536
    pub second_end : x.cell.column + c.k - 1 < 65536
    pub weight : x.weight < 65536

  pub narrow : (x : Record) → Memᴰ x (listing c s t) → Narrow x
  unfolding listing places
  narrow x m =
      let chain = start_of_heaviest c s t x (keep_in (is_listed c (matches c s t)) (records c s t) x m).0 in
      let g = chain_grown chain in
      let i = match_inside c s t x.cell (chain_hit chain) in
      let r = i.row_until in
      let r1 = i.row_from in
      let q = i.column_until in
      let q1 = i.column_from in
      let k = ok.some_base in
      let a = ok.short_first in
      let b = ok.short_second in
      let gr = g.rows in
      let gc = g.columns in
      let gw = g.weight in
      record { first_start = omega arith; first_end = omega arith; second_start = omega arith; second_end = omega arith; weight = omega arith }

-- ---- over the strands

-- an accepted job is accepted on either strand
on_strand_lem : {c : Settings} {s t : List ℕ} (strand : ℕ) → Accepted c s t → Accepted c s (on_strand strand t)
unfolding on_strand
on_strand_lem zero ok = ok
on_strand_lem (suc n) ok = turned_accepted ok

few_strands : (c : Settings) → length (strands c) ≤ 2
unfolding strands
few_strands c = by_test (λ (l : List ℕ). length l ≤ 2) (eqb c.strand 0) (0 ∷ []) (0 ∷ 1 ∷ []) (λ _. omega arith) (λ _. omega arith)

module _ (c : Settings) (s t : List ℕ) (ok : Accepted c s t) where
  pub match_sum_few : match_sum c s t ≤ 536870912
  unfolding match_sum
  match_sum_few =
      le_trans (sum_of_le (λ r. match_total c s (on_strand r t)) 268435456 (strands c) (λ r m. matches_few c s (on_strand r t) (on_strand_lem r ok)))
      (let n = few_strands c in omega arith)

  pub need_few : larger_need c s t ≤ 268435456
  unfolding larger_need
  need_few = largest_of_le (λ r. work_need c s (on_strand r t)) 268435456 (strands c) (λ r. W_few c s (on_strand r t) (on_strand_lem r ok))

  pub entries_few : length (entries c s t) ≤ 536870912
  unfolding entries strand_entries
  entries_few =
      le_trans
      (laid_few (strand_entries c s t) 268435456 (strands c)
      (λ r. omega (arith, listing_few c s (on_strand r t) (on_strand_lem r ok), length-map (listing c s (on_strand r t)) (strand_numbers r (length t) c.k))))
      (let n = few_strands c in omega arith)

  numbers_fit : (strand : ℕ) (x : Record) → Narrow c s (on_strand strand t) (on_strand_lem strand ok) x
      → entry_fits (entry_of (strand_numbers strand (length t) c.k x)) ≡ true
  unfolding entry_fits entry_of strand_numbers entry_numbers reverse_numbers ends turned
  numbers_fit zero x n =
      rw (
        lt-ltb x.start.row 65536 n.first_start,
        lt-ltb (x.cell.row + c.k - 1) 65536 n.first_end,
        lt-ltb x.start.column 65536 n.second_start,
        lt-ltb (x.cell.column + c.k - 1) 65536 n.second_end,
        lt-ltb x.weight 65536 n.weight,
      )
  numbers_fit (suc strand) x n =
      let l = ok.short_second in
      rw (
        lt-ltb x.start.row 65536 n.first_start,
        lt-ltb (x.cell.row + c.k - 1) 65536 n.first_end,
        lt-ltb (length t + 1 - (x.cell.column + c.k - 1)) 65536 (omega arith),
        lt-ltb (length t + 1 - x.start.column) 65536 (omega arith),
        lt-ltb x.weight 65536 n.weight,
      )

  pub entry_fits_lem : (entry : List ℕ) → Memᴰ entry (entries c s t) → entry_fits (entry_of entry) ≡ true
  entry_fits_lem entry m =
      let f = entry_from c s t entry m in
      ap (λ (l : List ℕ). entry_fits (entry_of l)) f.numbers
      ∙ numbers_fit f.strand f.from (narrow c s (on_strand f.strand t) (on_strand_lem f.strand ok) f.from f.is_listed_lem)

-- ---- refusals

-- a refusal's three numbers fit
pub record Small (x : Answer) : Type 0 where
  pub number : x.number < 256
  pub sequence : x.sequence < 256
  pub detail : x.detail < 4294967296

line_small : (t : Bool) (n q d : ℕ) (a : Answer) → n < 256 → q < 256 → (t ≡ true → d < 4294967296) → Small a → Small (cond t (refusal n q d) a)
unfolding refusal
line_small true n q d a hn hq hd r = record { number = hn; sequence = hq; detail = hd refl }
line_small false n q d a hn hq hd r = r

bad_small : (s : List ℕ) → length s ≤ 16384 → ltb 0 (bad_place s) ≡ true → bad_place s < 4294967296
bad_small s h e =
    let f = bad_first s (ltb-true 0 (bad_place s) e) in
    let a = f.here in
    let b = f.inside in
    omega arith

-- a length is looked at before the letters
long_first : (s : List ℕ) (q : ℕ) (a : Answer) → q < 256 → (length s ≤ 16384 → Small a) → Small (cond (ltb 16384 (length s)) (refusal 5 q 0) a)
unfolding refusal
long_first s q a l h = go (ltb 16384 (length s)) refl
  where
    go : (t : Bool) → ltb 16384 (length s) ≡ t → Small (cond t (refusal 5 q 0) a)
    go true e = record { number = omega arith; sequence = l; detail = omega arith }
    go false e = h (ltb-false 16384 (length s) e)

pub checked_small : (c : Settings) (s t : List ℕ) → Small (checked c s t)
unfolding checked first_of refusal
checked_small c s t =
    let none : Small (refusal 0 0 0) = record { number = omega arith; sequence = omega arith; detail = omega arith } in
    line_small (outside 1 31 c.k) 1 0 0 _ (omega arith) (omega arith) (λ _. omega arith)
    (line_small (outside 1 1024 c.b) 2 0 0 _ (omega arith) (omega arith) (λ _. omega arith)
    (line_small (outside 1 1024 c.a) 3 0 0 _ (omega arith) (omega arith) (λ _. omega arith)
    (line_small (outside 0 16384 c.m) 4 0 0 _ (omega arith) (omega arith) (λ _. omega arith)
    (line_small (outside 0 1 c.strand) 9 0 0 _ (omega arith) (omega arith) (λ _. omega arith)
    (line_small (outside 0 1 c.mask) 10 0 0 _ (omega arith) (omega arith) (λ _. omega arith)
    (long_first s 1 _ (omega arith) (λ a.
    long_first t 2 _ (omega arith) (λ b.
    line_small (ltb 0 (bad_place s)) 6 1 (bad_place s) _ (omega arith) (omega arith) (bad_small s a)
    (line_small (ltb 0 (bad_place t)) 6 2 (bad_place t) _ (omega arith) (omega arith) (bad_small t b) none)))))))))
