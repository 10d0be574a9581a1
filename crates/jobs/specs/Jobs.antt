-- The compare job from any matches in so many rows. Assumes nothing.
use Rattle.std.specs.Prelude.{List, [], ◌∷◌, ℕ, zero, suc, ◌+◌, length, take, drop}
use Rattle.rules.specs.declared.Settings.{Settings}
use Rattle.rules.specs.declared.Cell.{Cell}
use Rattle.rules.specs.Rooms.{pairs}
use Rattle.rules.specs.Answers.{Outcome, comparing}
use Rattle.strands.specs.Strands.{entries_of, larger_of}

-- so many entries of a list room, six numbers each from its front
unfoldable pub entries_in : ℕ → List ℕ → List (List ℕ)
entries_in zero list = []
entries_in (suc n) list = take 6 list ∷ entries_in n (drop 6 list)

-- checks 7 and 8, and the compare job done, from the matches of each strand in so many rows
unfoldable pub compared_of : Settings → ℕ → List Cell → ℕ → List Cell → ℕ → List ℕ → List ℕ → Outcome
unfolding entries_of larger_of
compared_of c letters forward rows reverse reverse-rows work list =
    comparing (entries_of c letters forward reverse) (length forward + length reverse) (larger_of c.b forward rows reverse reverse-rows)
    (pairs c.b forward + pairs c.b reverse) work list
