-- Two strands from the matches of each: their tallies together, and their entries one after the other. The functions give these for the matches that the
-- walks come to. Assumes nothing.
use Rattle.std.specs.Prelude.{◌≡◌, ℕ, ◌+◌, ◌*◌, ◌^◌, ◌≤◌, max, List, [], ◌++◌, map, length, take}
use Rattle.rules.specs.declared.Settings.{Settings}
use Rattle.rules.specs.declared.Cell.{Cell}
use Rattle.rules.specs.declared.Record.{Record}
use Rattle.rules.specs.Lists.{keep, laid}
use Rattle.rules.specs.Records.{records_from}
use Rattle.rules.specs.Listing.{is_listed}
use Rattle.rules.specs.Rooms.{largest_run}
use Rattle.rules.specs.Strands.{strand_numbers}
use Rattle.matches.specs.Walks.{walked, WalkSafe}
use Rattle.tally.specs.declared.Counts.{Counts}

-- what is listed of some matches
unfoldable pub listing_of : Settings → List Cell → List Record
listing_of c cells = keep (is_listed c cells) (records_from c.b [] cells)

-- the entries of two strands, the forward strand first, where the second sequence has so many letters
unfoldable pub entries_of : Settings → ℕ → List Cell → List Cell → List (List ℕ)
unfolding listing_of strand_numbers
entries_of c letters forward reverse =
    map (strand_numbers 0 letters c.k) (listing_of c forward) ++ map (strand_numbers 1 letters c.k) (listing_of c reverse)

-- the larger need of two strands, each with its matches in so many rows
unfoldable pub larger_of : ℕ → List Cell → ℕ → List Cell → ℕ → ℕ
unfolding largest_run
larger_of b forward rows reverse reverse-rows = max (largest_run b forward rows) (largest_run b reverse reverse-rows)

-- ---- walks

-- walks over all columns that a job can have, under accepted settings
pub record Walked (firsts nexts : List ℕ) (c : Settings) : Type 0 where
  pub walks : WalkSafe firsts nexts
  pub wide : length nexts ≡ 16384
  pub some_base : 1 ≤ c.k
  pub few_bases : c.k ≤ 31

-- ---- contracts

-- the tallies of two strands, each with its matches in so many rows
unfoldable pub both_counts : ℕ → List Cell → ℕ → List Cell → ℕ → Counts
unfolding larger_of
both_counts b forward rows reverse reverse-rows =
    record { matches = length forward + length reverse; widest = larger_of b forward rows reverse reverse-rows }

-- so many entries, and where the list room holds them all, they stand at its front in these numbers
pub record Entered (all : List (List ℕ)) (list : List ℕ) (n : ℕ) : Type 0 where
  pub counted : n ≡ length all
  pub entries : 6 * n ≤ length list → take (6 * n) list ≡ laid (λ entry. entry) all

-- one strand, its entries in such numbers
pub record ListsAs (numbers : Record → List ℕ) (firsts nexts : List ℕ) (c : Settings) (list' : List ℕ) (n : ℕ) : Type 0 where
  pub few : n ≤ 2 ^ 28
  pub entered : Entered (map numbers (listing_of c (walked firsts nexts))) list' n

-- both strands
pub record ListsBoth (firsts nexts reverse-firsts reverse-nexts : List ℕ) (c : Settings) (letters : ℕ) (list' : List ℕ) (n : ℕ) : Type 0 where
  pub few : n ≤ 2 ^ 29
  pub entered : Entered (entries_of c letters (walked firsts nexts) (walked reverse-firsts reverse-nexts)) list' n
