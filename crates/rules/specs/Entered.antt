-- What the user enters: the settings of a job by their numbers, in document 01's order, then CR 1's strand and CR 5's mask. All definitions and examples
-- build settings here. Assumes nothing.
use Rattle.std.specs.Prelude.{ℕ}
use Rattle.rules.specs.declared.Settings.{Settings}

abbrev pub settings : ℕ → ℕ → ℕ → ℕ → ℕ → ℕ → Settings
settings k b a m strand mask = record { k = k; b = b; a = a; m = m; strand = strand; mask = mask }

-- on the forward strand, masked letters forming k-mers
abbrev pub forward : ℕ → ℕ → ℕ → ℕ → Settings
forward k b a m = settings k b a m 0 0

-- and on both; of the stopped sweep, on the reverse
abbrev pub both : ℕ → ℕ → ℕ → ℕ → Settings
both k b a m = settings k b a m 1 0

-- the same with masked letters breaking k-mers
abbrev pub forward_broken : ℕ → ℕ → ℕ → ℕ → Settings
forward_broken k b a m = settings k b a m 0 1

abbrev pub both_broken : ℕ → ℕ → ℕ → ℕ → Settings
both_broken k b a m = settings k b a m 1 1
