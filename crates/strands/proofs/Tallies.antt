-- The tallies of both strands are those of each put together, and no sum of links comes near 64 bits: 2^28 matches have at most 2^56. Assumes nothing.
use Rattle.std.proofs.Common.{◌≡◌, ℕ, ◌+◌, ◌^◌, ◌≤◌, max, List, length, ap, ◌∙◌, ap₂, mul-le-mul, arith}
use Rattle.rules.specs.Rooms.{largest_run, pairs}
use Rattle.matches.specs.Walks.{walked, WalkSafe}
use Rattle.matches.proofs.Walked.{walked_few}
use Rattle.tally.specs.declared.Counts.{Counts}
use Rattle.tally.specs.Tallies.{counts_of}
use Rattle.tally.proofs.Runs.{run_few}
use Rattle.links.proofs.Pairs.{pairs_few}
use Rattle.strands.specs.Strands.{larger_of, both_counts}

-- ---- one strand

few_cells : {firsts nexts : List ℕ} → WalkSafe firsts nexts → length (walked firsts nexts) ≤ 2 ^ 28
unfolding walked
few_cells {firsts} s = let r = s.few_rows in omega (arith, walked_few s (length firsts))

-- few of them in one run
pub run_short : {firsts nexts : List ℕ} (b : ℕ) → WalkSafe firsts nexts → largest_run b (walked firsts nexts) (length firsts) ≤ 2 ^ 28
run_short {firsts} {nexts} b s = omega (arith, few_cells s, run_few b (walked firsts nexts) (length firsts))

few_links : {firsts nexts : List ℕ} (b : ℕ) → WalkSafe firsts nexts → pairs b (walked firsts nexts) ≤ 2 ^ 56
few_links {firsts} {nexts} b s = let f = few_cells s in omega (arith, pairs_few b (walked firsts nexts), mul-le-mul f f)

-- ---- both

module _ {firsts nexts reverse-firsts reverse-nexts : List ℕ} (s : WalkSafe firsts nexts) (t : WalkSafe reverse-firsts reverse-nexts) (b : ℕ) where
  -- how many matches there are, and how many of them in one run
  pub both_few : (length (walked firsts nexts) + length (walked reverse-firsts reverse-nexts) ≤ 2 ^ 29)
      × (larger_of b (walked firsts nexts) (length firsts) (walked reverse-firsts reverse-nexts) (length reverse-firsts) ≤ 2 ^ 28)
  unfolding larger_of
  both_few = (omega (arith, few_cells s, few_cells t), omega (arith, run_short b s, run_short b t))

  module _ {n m : Counts} (f : n ≡ counts_of b (walked firsts nexts) (length firsts))
      (r : m ≡ counts_of b (walked reverse-firsts reverse-nexts) (length reverse-firsts)) where
    pub sum_few : n.matches + m.matches ≤ 2 ^ 29
    unfolding counts_of
    sum_few = omega (arith, ap (λ (k : Counts). k.matches) f, ap (λ (k : Counts). k.matches) r, both_few.0)

    pub counts_both : {widest : ℕ} → widest ≡ max n.widest m.widest
        → record { matches = n.matches + m.matches; widest = widest }
        ≡ both_counts b (walked firsts nexts) (length firsts) (walked reverse-firsts reverse-nexts) (length reverse-firsts)
    unfolding both_counts larger_of counts_of
    counts_both e =
        ap₂ (λ (x y : ℕ). record { matches = x; widest = y }) (ap₂ (λ (x y : Counts). x.matches + y.matches) f r)
        (e ∙ ap₂ (λ (x y : Counts). max x.widest y.widest) f r)

  -- no sum of links comes near a word
  pub links_few : pairs b (walked firsts nexts) + pairs b (walked reverse-firsts reverse-nexts) ≤ 2 ^ 57
  links_few = omega (arith, few_links b s, few_links b t)
