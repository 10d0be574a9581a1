-- What CR 2 replaced: document 01's rule for closed, and the listing by it. Nothing is computed by it any more; proofs/Theorems.antt shows against it
-- that the listing only shrinks. Assumes nothing.
use Rattle.std.specs.Prelude.{◌≡◌, refl, Bool, ◌&&◌, not, List, [], ◌∷◌, map, ℕ, ◌+◌, leb, ltb}
use Rattle.rules.specs.declared.Settings.{Settings}
use Rattle.rules.specs.Lists.{text, keep, any_of}
use Rattle.rules.specs.Entered.{forward}
use Rattle.rules.specs.Matches.{Cell, cell, matches}
use Rattle.rules.specs.Records.{Record, records}
use Rattle.rules.specs.Listing.{long_enough, listing}

-- y is c moved on by 1 to b rows and 1 to b columns
unfoldable pub beyond : ℕ → Cell → Cell → Bool
beyond b c y =
    ltb c.row y.row && leb y.row (c.row + b) && ltb c.column y.column && leb y.column (c.column + b)

-- "Closed match: there is no match (i + x, j + y) with x and y each from 1 to b"
unfoldable pub closed_earlier : ℕ → List Cell → Cell → Bool
unfolding any_of beyond
closed_earlier b all c = not (any_of (beyond b c) all)

unfoldable pub listing_earlier : Settings → List ℕ → List ℕ → List Record
unfolding keep closed_earlier long_enough matches records
listing_earlier c first second = keep (λ x. closed_earlier c.b (matches c first second) x.cell && long_enough c x) (records c first second)

-- P5's settings
abbrev p5 : Settings
p5 = forward 1 1 6 0

-- the matches that are listed
abbrev cells : List Record → List Cell
cells = map (λ (x : Record). x.cell)

-- "Annex readers get five clauses for AAA against AAA where one carries the rest."
pub five_clauses : cells (listing_earlier p5 (text "AAA") (text "AAA"))
    ≡ cell 1 3 ∷ cell 2 3 ∷ cell 3 1 ∷ cell 3 2 ∷ cell 3 3 ∷ []
unfolding listing_earlier text
five_clauses = refl

pub one_carries_the_rest : cells (listing p5 (text "AAA") (text "AAA")) ≡ cell 3 3 ∷ []
unfolding listing text
one_carries_the_rest = refl
