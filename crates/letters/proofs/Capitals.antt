-- The tables of the capitals are right at every byte, with the bit of lower case cleared, since tests that antt computes over all 256 of them say so.
-- Assumes nothing.
use mathlib.Core.Path.{◌≡◌, sym, ap, ◌∙◌}
use mathlib.Core.Bool.{Bool, false, cond}
use mathlib.Core.List.{List}
use mathlib.Core.Logic.{◌⊎◌, inl, inr}
use Prim.Native.Nat.{ℕ, ◌-◌, ◌<◌, ◌≤◌}
use lib.Bits.{bit_and, bit_or}
use lib.Dec.{eqb, ltb, eqb→eq}
use lib.ListN.{get_or}
use borrow.Author.Tests.{lt-ltb, le-ltb, eq-eqb, ne_eqb}
use Rattle.rules.specs.declared.Letter.{Letter}
use Rattle.rules.specs.Letters.{read_letter, code_of, complement}
use Rattle.letters.specs.Capitals.{capital_codes, capital_complements, at_capital}
use Rattle.rules.proofs.Computed.{at_each, same_test}

-- ---- a table at a byte

module _ (table : List ℕ) (x : ℕ) where
  -- below A, or above Z
  pub other : (x < 65) ⊎ ((65 ≤ x) × (90 < x)) → 0 ≡ at_capital table x
  unfolding at_capital
  other (inl l) = rw (lt-ltb x 65 l)
  other (inr l) = rw (le-ltb x 65 l.0, lt-ltb 90 x l.1)

  pub capital : 65 ≤ x → x ≤ 90 → get_or table (x - 65) 0 ≡ at_capital table x
  unfolding at_capital
  capital m l = rw (le-ltb x 65 m, le-ltb 90 x l)

-- ---- codes

-- without the bit that lower case has
unfoldable pub folded : ℕ → ℕ
folded x = bit_and x 223

-- the code that the table has
unfoldable coded : ℕ → ℕ
unfolding at_capital capital_codes folded
coded x = at_capital capital_codes (folded x)

pub coded_right : (x : ℕ) → x < 256 → at_capital capital_codes (folded x) ≡ code_of x
unfolding coded code_of
coded_right x h = eqb→eq (coded x) (code_of x) (at_each (λ y. eqb (coded y) (code_of y)) 256 tt x h)

-- ---- a byte as it is read

unfoldable seen : ℕ → Letter
unfolding coded folded
seen x = cond (eqb (coded x) 0) (record { capital = 0; masked = false }) (record { capital = folded x; masked = ltb (folded x) x })

capital_right : ℕ → Bool
capital_right x = eqb (seen x).capital (read_letter x).capital

mask_right : ℕ → Bool
mask_right x = eqb (cond (seen x).masked 1 0) (cond (read_letter x).masked 1 0)

seen_right : (x : ℕ) → x < 256 → seen x ≡ read_letter x
unfolding seen capital_right mask_right read_letter
seen_right x h =
    let e : (seen x).capital ≡ (read_letter x).capital = eqb→eq (seen x).capital (read_letter x).capital (at_each capital_right 256 tt x h) in
    let f : (seen x).masked ≡ (read_letter x).masked =
    same_test (seen x).masked (read_letter x).masked (eqb→eq (cond (seen x).masked 1 0) (cond (read_letter x).masked 1 0) (at_each mask_right 256 tt x h)) in
    λ i. record { capital = e i; masked = f i }

module _ {x code : ℕ} {codes : List ℕ} (h : x < 256) (t : codes ≡ capital_codes) (e : code ≡ at_capital codes (folded x)) where
  code_is : code ≡ coded x
  unfolding coded
  code_is = e ∙ ap (λ (l : List ℕ). at_capital l (folded x)) t

  pub read_none : code ≡ 0 → record { capital = 0; masked = false } ≡ read_letter x
  unfolding seen
  read_none z = rw (eq-eqb (coded x) 0 (sym code_is ∙ z)) at (seen_right x h)

  pub read_one : (code ≡ 0 → ⊥) → record { capital = folded x; masked = ltb (folded x) x } ≡ read_letter x
  unfolding seen
  read_one n = rw (ne_eqb (coded x) 0 (λ z. n (code_is ∙ z))) at (seen_right x h)

-- ---- complements

-- the complement of the capital, with the bit of lower case where the letter has it
unfoldable kept : ℕ → ℕ
unfolding at_capital capital_complements folded
kept x = let turned = at_capital capital_complements (folded x) in cond (eqb turned 0) 0 (bit_or turned (bit_and x 32))

kept_right : (x : ℕ) → x < 256 → kept x ≡ complement x
unfolding kept complement
kept_right x h = eqb→eq (kept x) (complement x) (at_each (λ y. eqb (kept y) (complement y)) 256 tt x h)

module _ {x turned : ℕ} {complements : List ℕ} (h : x < 256) (t : complements ≡ capital_complements) (e : turned ≡ at_capital complements (folded x)) where
  turned_is : turned ≡ at_capital capital_complements (folded x)
  turned_is = e ∙ ap (λ (l : List ℕ). at_capital l (folded x)) t

  pub turned_none : turned ≡ 0 → 0 ≡ complement x
  unfolding kept
  turned_none z = rw (eq-eqb (at_capital capital_complements (folded x)) 0 (sym turned_is ∙ z)) at (kept_right x h)

  pub turned_one : (turned ≡ 0 → ⊥) → bit_or turned (bit_and x 32) ≡ complement x
  unfolding kept
  turned_one n =
      ap (λ (m : ℕ). bit_or m (bit_and x 32)) turned_is
      ∙ rw (ne_eqb (at_capital capital_complements (folded x)) 0 (λ z. n (turned_is ∙ z))) at (kept_right x h)
