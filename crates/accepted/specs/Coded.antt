-- The outcomes of a job that the checks let pass, from the codes of its first sequence and the letters of its second as they are read. That they are those of the rules, where the codes are a sequence's,
-- is proved (proofs/Coded.antt). Assumes nothing.
use Rattle.std.specs.Prelude.{List, ℕ, length}
use Rattle.rules.specs.declared.Settings.{Settings}
use Rattle.rules.specs.Strands.{on_strand}
use Rattle.rules.specs.Answers.{Outcome}
use Rattle.walks.specs.Matched.{coded_matches, reverse_rows}
use Rattle.strands.specs.Strands.{larger_of}
use Rattle.jobs.specs.Jobs.{compared_of}
use Rattle.stopping.specs.Stopping.{stopped_of}

-- the compare job: 7, 8 and done
unfoldable pub compared_coded : Settings → List ℕ → List ℕ → List ℕ → List ℕ → Outcome
compared_coded c coded second work list =
    let rows = length coded in
    let reverse-rows = reverse_rows c rows in
    compared_of c (length second) (coded_matches c coded second rows) rows (coded_matches c coded (on_strand 1 second) reverse-rows) reverse-rows work list

-- the stopped sweep: 7, 19 and done
unfoldable pub stopped_coded : Settings → List ℕ → List ℕ → List ℕ → ℕ → Outcome
stopped_coded c coded second work r =
    stopped_of c (coded_matches c coded (on_strand c.strand second) (length coded)) (length coded) work r

-- W
unfoldable pub needed_coded : Settings → List ℕ → List ℕ → ℕ
needed_coded c coded second =
    let rows = length coded in
    let reverse-rows = reverse_rows c rows in
    larger_of c.b (coded_matches c coded second rows) rows (coded_matches c coded (on_strand 1 second) reverse-rows) reverse-rows
