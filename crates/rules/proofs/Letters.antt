-- Every byte is the letter of a code, masked or not, or no letter; so what is to hold of every byte is computed by antt at the fifteen codes, in both cases.
-- Codes and letters are each other's inverse, and a complement's complement is the letter itself. Assumes nothing.
use mathlib.Core.Path.{◌≡◌, refl, sym, ap, subst⁻¹, ◌∙◌}
use mathlib.Core.Bool.{Bool, true, false}
use mathlib.Core.List.{map}
use Prim.Native.Nat.{ℕ, zero, suc, ◌≤◌, ◌<◌}
use native.Mathlib.Omega.{arith}
use lib.Dec.{T, eqb, ltb, eqb→eq, ltb→lt}
use lib.ListN.{get_or, get_or-eq_default}
use Rattle.rules.specs.declared.Letter.{Letter}
use Rattle.rules.specs.Lists.{text, place_from}
use Rattle.rules.specs.Letters.{letter_table, letter_of, capital_code, masked_table, read_letter, code_of, letter_as, reversed_bits, complement, stands_for}
use Rattle.rules.proofs.Computed.{all_below, at_each}
use Rattle.rules.proofs.ListLaws.{Placed, not_there, there, placed}

-- from 16 on a code has no letter
pub no_letter : (c : ℕ) → 16 ≤ c → letter_of c ≡ 0
unfolding letter_of
no_letter c h = get_or-eq_default letter_table 0 h

-- ---- bytes and letters

-- the byte is no letter
abbrev pub NoLetter : ℕ → Type 0
NoLetter x = read_letter x ≡ record { capital = 0; masked = false }

-- every byte is none, or one of the fifteen, masked or not
pub data Spelt (x : ℕ) : Type 0 where
  none : NoLetter x → Spelt x
  one : (masked : Bool) (code : ℕ) → 1 ≤ code → code < 16 → x ≡ letter_as masked code → Spelt x

pub spelt : (x : ℕ) → Spelt x
unfolding read_letter capital_code letter_as letter_of
spelt x = go (place_from 0 0 x masked_table) (capital_code x) refl refl (placed 0 0 x masked_table) (placed 0 0 x letter_table)
  where
    go : (n p : ℕ) → place_from 0 0 x masked_table ≡ n → capital_code x ≡ p → Placed 0 0 x masked_table n → Placed 0 0 x letter_table p → Spelt x
    go (suc n) p en ep (not_there e) _ = absurd (omega arith)
    go (suc n) p en ep (there q e l g) _ =
        let d : suc n ≡ q = omega arith in
        let h : q < 16 = l in
        one true (suc n) (omega arith) (omega arith) (sym (ap (λ (m : ℕ). get_or masked_table m 0) d ∙ g))
    go zero (suc p) en ep _ (not_there e) = absurd (omega arith)
    go zero (suc p) en ep _ (there q e l g) =
        let d : suc p ≡ q = omega arith in
        let h : q < 16 = l in
        one false (suc p) (omega arith) (omega arith) (sym (ap (λ (m : ℕ). get_or letter_table m 0) d ∙ g))
    go zero zero en ep _ _ = none (rw (en, ep))

-- a byte that is no letter
module _ (x : ℕ) (n : NoLetter x) where
  pub none_code : code_of x ≡ 0
  unfolding code_of
  none_code = rw (n, code_of)

  pub none_complement : complement x ≡ 0
  unfolding complement
  none_complement = rw (n, complement)

  pub none_stands : (mask : ℕ) → stands_for mask x ≡ 0
  unfolding stands_for
  none_stands zero = rw (n, stands_for)
  none_stands (suc m) = rw (n, stands_for)

-- two rules that antt computes at the fifteen codes, in both cases
module _ (f g : ℕ → ℕ) where
  abbrev pub agree : Bool → ℕ → Bool
  agree masked code = eqb (f (letter_as masked code)) (g (letter_as masked code))

  pub at_code : T (all_below (agree false) 16) → T (all_below (agree true) 16) → (masked : Bool) (c : ℕ) → c < 16
      → f (letter_as masked c) ≡ g (letter_as masked c)
  at_code p q false c h = eqb→eq (f (letter_as false c)) (g (letter_as false c)) (at_each (agree false) 16 p c h)
  at_code p q true c h = eqb→eq (f (letter_as true c)) (g (letter_as true c)) (at_each (agree true) 16 q c h)

  -- agree at every letter
  pub each_letter : T (all_below (agree false) 16) → T (all_below (agree true) 16) → (x : ℕ) → 0 < code_of x → f x ≡ g x
  each_letter p q x h = go (spelt x)
    where
      go : Spelt x → f x ≡ g x
      go (none n) = absurd (let z = none_code x n in omega arith)
      go (one m c _ l e) = subst⁻¹ (λ (y : ℕ). f y ≡ g y) e (at_code p q m c l)

  -- and at every byte, where they do at one that is no letter
  pub each_byte : T (all_below (agree false) 16) → T (all_below (agree true) 16) → ((x : ℕ) → NoLetter x → f x ≡ g x) → (x : ℕ) → f x ≡ g x
  each_byte p q other x = go (spelt x)
    where
      go : Spelt x → f x ≡ g x
      go (none n) = other x n
      go (one m c _ l e) = subst⁻¹ (λ (y : ℕ). f y ≡ g y) e (at_code p q m c l)

-- ---- codes and letters

-- the code of a code's letter, masked or not
pub code_of_letter : (masked : Bool) (c : ℕ) → c < 16 → code_of (letter_as masked c) ≡ c
unfolding letter_as code_of
code_of_letter false c h = eqb→eq (code_of (letter_as false c)) c (at_each (λ n. eqb (code_of (letter_as false n)) n) 16 tt c h)
code_of_letter true c h = eqb→eq (code_of (letter_as true c)) c (at_each (λ n. eqb (code_of (letter_as true n)) n) 16 tt c h)

-- a code is below 16
pub code_small : (x : ℕ) → code_of x < 16
unfolding code_of capital_code
code_small x = go (placed 0 0 (read_letter x).capital letter_table)
  where
    go : {c : ℕ} → Placed 0 0 (read_letter x).capital letter_table c → c < 16
    go (not_there e) = omega arith
    go (there p e l g) = let h : p < 16 = l in omega arith

-- and its letter is the capital
pub letter_of_code : (x : ℕ) → letter_of (code_of x) ≡ (read_letter x).capital
unfolding letter_as letter_of code_of
letter_of_code = each_byte (λ x. letter_of (code_of x)) (λ x. (read_letter x).capital) tt tt (λ x n. ap letter_of (none_code x n) ∙ sym (ap (λ (l : Letter). l.capital) n))

-- a byte is no letter exactly where it has no capital
pub no_capital : (x : ℕ) → (read_letter x).capital ≡ 0 → code_of x ≡ 0
unfolding code_of
no_capital x e = ap capital_code e

pub some_capital : (x : ℕ) → ((read_letter x).capital ≡ 0 → ⊥) → code_of x ≡ 0 → ⊥
unfolding letter_of
some_capital x n e = n (sym (letter_of_code x) ∙ ap letter_of e)

-- ---- complements

-- "R becomes Y and N stays": the fifteen letters and their complements, and CR 5: "reverse complement keeps the mask"
pub complement_table : map complement (text "ACMGRSVTWYHKDBNacmgrsvtwyhkdbn") ≡ text "TGKCYSBAWRDMHVNtgkcysbawrdmhvn"
unfolding complement text
complement_table = refl

small : ℕ → Bool
small c = ltb (reversed_bits c) 16

pub reversed_small : (c : ℕ) → c < 16 → reversed_bits c < 16
unfolding small reversed_bits
reversed_small c h = ltb→lt (reversed_bits c) 16 (at_each small 16 tt c h)

-- the code of a complement is the code with its bits reversed, so that a letter's complement is a letter
pub complement_code : (x : ℕ) → code_of (complement x) ≡ reversed_bits (code_of x)
unfolding complement
complement_code x = code_of_letter (read_letter x).masked (reversed_bits (code_of x)) (reversed_small (code_of x) (code_small x))

pub complement_twice : (x : ℕ) → 0 < code_of x → complement (complement x) ≡ x
unfolding letter_as complement
complement_twice = each_letter (λ x. complement (complement x)) (λ x. x) tt tt
