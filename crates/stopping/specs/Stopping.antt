-- The stopped sweep from any matches in so many rows. Assumes nothing.
use Rattle.std.specs.Prelude.{◌≡◌, List, ℕ, length}
use Rattle.rules.specs.declared.Settings.{Settings}
use Rattle.rules.specs.declared.Cell.{Cell}
use Rattle.rules.specs.Lists.{laid, then_zeros}
use Rattle.rules.specs.Rooms.{record_numbers, largest_run, pairs}
use Rattle.rules.specs.Answers.{Outcome, stopping}
use Rattle.matches.specs.Walks.{walked}
use Rattle.predecessors.specs.declared.ring.Ring.{Ring}
use Rattle.predecessors.specs.Numbers.{RingFits, slot_of}
use Rattle.sweep.specs.Sweeping.{run_of}

-- checks 7 and 19, and the stopped sweep done
unfoldable pub stopped_of : Settings → List Cell → ℕ → List ℕ → ℕ → Outcome
unfolding run_of
stopped_of c cells rows work r = stopping (run_of c cells r) (length cells) (largest_run c.b cells rows) (pairs c.b cells) rows work r

-- ---- contracts

-- the run of a row
pub record Holds (firsts nexts : List ℕ) (c : Settings) (r : ℕ) (work work' : List ℕ) (n : ℕ) : Type 0 where
  pub counted : n ≡ length (run_of c (walked firsts nexts) r)
  pub held : work' ≡ then_zeros (laid record_numbers (run_of c (walked firsts nexts) r)) (length work)

pub record RingFrom (size before : ℕ) (ring : Ring) : Type 0 where
  pub fits : RingFits ring
  pub sized : ring.size ≡ size
  pub first : slot_of ring before ≡ 0
