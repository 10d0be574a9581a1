-- What checks 1 to 6, 9 and 10 leave of a job's settings and lengths. Assumes nothing.
use Rattle.std.specs.Prelude.{List, ℕ, ◌≤◌, length}
use Rattle.rules.specs.declared.Settings.{Settings}

pub record Accepted (c : Settings) (first second : List ℕ) : Type 0 where
  pub some_base : 1 ≤ c.k
  pub few_bases : c.k ≤ 31
  pub one_or_both : c.strand ≤ 1
  pub short_first : length first ≤ 16384
  pub short_second : length second ≤ 16384
