-- Weights and starts as they are computed: one pass over the matches in order. That they are those of Chains.antt is proved (proofs/Theorems.antt).
-- Assumes nothing.
use Rattle.std.specs.Prelude.{Bool, cond, ◌&&◌, ◌||◌, List, [], ◌∷◌, ◌++◌, ℕ, suc, ltb, eqb}
use Rattle.std.proofs.Math.Option.{Option, none, some}
use Rattle.rules.specs.declared.Settings.{Settings}
pub use Rattle.rules.specs.declared.Record.{Record}
use Rattle.rules.specs.Matches.{Cell, matches}
use Rattle.rules.specs.Chains.{left_extension}

-- x is preferred to y: it weighs more; ties go to the smaller column, then the smaller row
unfoldable pub beats : Record → Record → Bool
beats x y =
    ltb y.weight x.weight
    || eqb x.weight y.weight
    && (ltb x.cell.column y.cell.column || eqb x.cell.column y.cell.column && ltb x.cell.row y.cell.row)

-- the preferred one of the best so far and x
unfoldable pub better : Option Record → Record → Option Record
unfolding beats
better none x = some x
better (some y) x = cond (beats x y) (some x) (some y)

-- x is looked at for a predecessor of c
unfoldable pub consider : ℕ → Cell → Option Record → Record → Option Record
unfolding better left_extension
consider b c best x = cond (left_extension b x.cell c) (better best x) best

-- the predecessor of c: the best so far, and then all of a list looked at
unfoldable pub pick : ℕ → Cell → Option Record → List Record → Option Record
unfolding consider
pick b c best [] = best
pick b c best (x ∷ xs) = pick b c (consider b c best x) xs

-- the record of c by its predecessor's
unfoldable pub record_after : Cell → Option Record → Record
record_after c none = record { cell = c; weight = 1; start = c }
record_after c (some x) = record { cell = c; weight = suc x.weight; start = x.start }

-- the record of c by the records of all matches before it
unfoldable pub record_of : ℕ → List Record → Cell → Record
unfolding record_after pick
record_of b earlier c = record_after c (pick b c none earlier)

-- the records so far, and those of the matches that follow, in order
unfoldable pub records_from : ℕ → List Record → List Cell → List Record
unfolding record_of
records_from b sofar [] = sofar
records_from b sofar (c ∷ cs) = records_from b (sofar ++ (record_of b sofar c ∷ [])) cs

-- the records of all matches of a job, by row, then column
unfoldable pub records : Settings → List ℕ → List ℕ → List Record
unfolding records_from matches
records c first second = records_from c.b [] (matches c first second)
