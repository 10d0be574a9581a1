-- The search for a bad place: the position that it finds is one less than the first bad place, by induction over the letters. Assumes nothing.
use mathlib.Core.Path.{◌≡◌, refl, ap, ◌∙◌}
use mathlib.Core.Bool.{Bool, true, false, cond}
use mathlib.Core.List.{List, [], ◌∷◌}
use Prim.Native.Nat.{ℕ, zero, suc, ◌+◌, ◌<◌}
use native.Mathlib.Numerals.{add-one}
use lib.Dec.{eqb}
use lib.ListN.{get_or}
use Rattle.std.proofs.Common.{Some}
use Rattle.std.specs.List.{position, position_from}
use Rattle.std.specs.Option.{option_map}
use Rattle.std.proofs.lemmas.Iterator.Adapters.{position_from-zero}
use Rattle.rules.specs.Letters.{bad_from, bad_place}
use Rattle.letters.specs.Capitals.{capital_codes, at_capital}
use Rattle.letters.specs.FirstBad.{some_place}
use Rattle.letters.proofs.Capitals.{folded, coded_right}

-- a byte has no code in the table
abbrev pub is_bad : ℕ → Bool
is_bad x = eqb (at_capital capital_codes (folded x)) 0

-- one letter more in front, which is bad or not
found_more : (t : Bool) (i : ℕ) (xs : List ℕ) → option_map (λ p. p + 1) (position_from is_bad (i + 1) xs) ≡ some_place (bad_from (suc (suc i)) xs)
    → option_map (λ p. p + 1) (cond t (Some i) (position_from is_bad (i + 1) xs)) ≡ some_place (cond t (suc i) (bad_from (suc (suc i)) xs))
unfolding some_place
found_more true i xs h = ap Some (add-one i)
found_more false i xs h = h

found_from : (i : ℕ) (s : List ℕ) → ((k : ℕ) → get_or s k 0 < 256) → option_map (λ p. p + 1) (position_from is_bad i s) ≡ some_place (bad_from (suc i) s)
unfolding bad_from some_place
found_from i [] bytes = refl
found_from i (x ∷ xs) bytes =
    rw (← coded_right x (bytes zero)) (found_more (is_bad x) i xs (rw add-one (found_from (suc i) xs (λ k. bytes (suc k)))))

pub found_place : (s : List ℕ) → ((k : ℕ) → get_or s k 0 < 256) → option_map (λ p. p + 1) (position is_bad s) ≡ some_place (bad_place s)
unfolding bad_place
found_place s bytes = ap (option_map (λ p. p + 1)) (position_from-zero is_bad s) ∙ found_from 0 s bytes
