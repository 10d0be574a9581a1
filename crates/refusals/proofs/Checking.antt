-- The checks in order: the first whose test passes is given, piece by piece, and a job that none refuses is accepted. Assumes nothing.
use mathlib.Core.Path.{◌≡◌, refl, sym, ap, subst, ◌∙◌}
use mathlib.Core.Logic.{◌⊎◌, inl, inr}
use mathlib.Core.Bool.{Bool, true, false, cond}
use mathlib.Core.List.{List, [], ◌∷◌, ◌++◌}
use Prim.Native.Nat.{ℕ, ◌≤◌, ◌<◌}
use native.Mathlib.Omega.{arith}
use borrow.Author.Tests.{lt-ltb, le-ltb, ltb-false}
use lib.Dec.{T, ltb}
use lib.ListN.{length}
use Rattle.rules.specs.declared.Settings.{Settings}
use Rattle.rules.specs.declared.Answer.{Answer}
use Rattle.rules.specs.Letters.{bad_place, reverse_complement, as_read}
use Rattle.rules.specs.Answers.{Line, on, first_of, refusal, outside, settings_checks, length_check, length_checks, letter_check, letter_checks, checks, given, checked}
use Rattle.rules.proofs.Tests.{tests, tested}
use Rattle.rules.proofs.Strands.{turned_length}
use Rattle.rules.proofs.Masks.{read_length}
use Rattle.answers.specs.declared.refusal.Refusal.{Refusal}
use Rattle.std.specs.Prelude.{Result}
use Rattle.std.specs.Result.{IsErrAnd}
use Rattle.answers.specs.Outcomes.{refusal_of, check_of}
use Rattle.answers.proofs.Exits.{check_exit}
use Rattle.answers.proofs.Unique.{refusal_refuses}
use Rattle.refusals.specs.Accepted.{Accepted}

-- outside by the first test or by the second
pub below_low : (low high n : ℕ) → n < low → outside low high n ≡ true
unfolding outside
below_low low high n h = rw (lt-ltb n low h)

pub not_below : (low high n : ℕ) → low ≤ n → outside low high n ≡ ltb high n
unfolding outside
not_below low high n h = rw (le-ltb n low h)

-- ---- a line of a table that applies, and one that does not

module _ {A : Type 0} (then : A) (others : List (Line A)) (otherwise : A) where
  pub applies : {t : Bool} → t ≡ true → first_of (on t then ∷ others) otherwise ≡ then
  unfolding first_of
  applies e = rw e

  pub passes_on : {t : Bool} → t ≡ false → first_of (on t then ∷ others) otherwise ≡ first_of others otherwise
  unfolding first_of
  passes_on e = rw e

-- ---- one piece after another

-- each line refuses: no number is 0
pub data Refusing : List (Line Answer) → Type 0 where
  none_left : Refusing []
  refusing : (t : Bool) (n q d : ℕ) {others : List (Line Answer)} → (n ≡ 0 → ⊥) → Refusing others → Refusing (on t (refusal n q d) ∷ others)

-- what an answer's number says of one that it equals
pub number_passes : {x y : Answer} → x ≡ y → x.number ≡ 0 → y.number ≡ 0
number_passes e z = sym (ap (λ (x : Answer). x.number) e) ∙ z

pub number_refuses : {x y : Answer} → x ≡ y → (x.number ≡ 0 → ⊥) → y.number ≡ 0 → ⊥
number_refuses e h z = h (ap (λ (x : Answer). x.number) e ∙ z)

-- where a piece refuses, what comes after it does not matter
pub given_first : (others : List (Line Answer)) {lines : List (Line Answer)} → Refusing lines → ((given lines).number ≡ 0 → ⊥)
    → given (lines ++ others) ≡ given lines
unfolding given first_of refusal
given_first others none_left h = absurd (h refl)
given_first others (refusing true n q d z r) h = refl
given_first others (refusing false n q d z r) h = given_first others r h

-- and where it does not, what comes after it is given
pub given_next : (others : List (Line Answer)) {lines : List (Line Answer)} → Refusing lines → (given lines).number ≡ 0 → given (lines ++ others) ≡ given others
unfolding given first_of refusal
given_next others none_left e = refl
given_next others (refusing true n q d z r) e = absurd (z e)
given_next others (refusing false n q d z r) e = given_next others r e

-- what a check of a piece returned: a refusal is what was asked for, and where it passes what comes after it is
module _ (others : List (Line Answer)) {asked : Answer} {piece : List (Line Answer)} (next : asked ≡ given (piece ++ others)) (refuse : Refusing piece) where
  pub refuses : (e : Refusal) (r : Result (Unit {0}) Refusal) → IsErrAnd r (λ d. d ≡ e) → refusal_of e ≡ given piece → check_of r ≡ asked
  refuses e r exit is = check_exit e r exit (is ∙ sym (next ∙ given_first others refuse (number_refuses is (refusal_refuses e))))

  pub passes : refusal 0 0 0 ≡ given piece → asked ≡ given others
  unfolding refusal
  passes e = next ∙ given_next others refuse (number_passes e refl)

-- one line
pub line_refuses : (t : Bool) (n q d : ℕ) → (n ≡ 0 → ⊥) → Refusing (on t (refusal n q d) ∷ [])
line_refuses t n q d z = refusing t n q d z none_left

pub settings_refuse : (c : Settings) → Refusing (settings_checks c)
unfolding settings_checks
settings_refuse c =
    refusing _ 1 0 0 (λ z. omega arith)
    (refusing _ 2 0 0 (λ z. omega arith)
    (refusing _ 3 0 0 (λ z. omega arith)
    (refusing _ 4 0 0 (λ z. omega arith) (refusing _ 9 0 0 (λ z. omega arith) (refusing _ 10 0 0 (λ z. omega arith) none_left)))))

pub length_refuses : (sequence letters : ℕ) → Refusing (length_check sequence letters ∷ [])
unfolding length_check
length_refuses sequence letters = refusing _ 5 sequence 0 (λ z. omega arith) none_left

pub letters_refuse : (sequence : ℕ) (s : List ℕ) → Refusing (letter_check sequence s ∷ [])
unfolding letter_check
letters_refuse sequence s = refusing _ 6 sequence (bad_place s) (λ z. omega arith) none_left

-- each piece by its test
module _ (sequence letters : ℕ) where
  pub length_5 : 16384 < letters → given (length_check sequence letters ∷ []) ≡ refusal 5 sequence 0
  unfolding given length_check
  length_5 h = applies (refusal 5 sequence 0) [] (refusal 0 0 0) (lt-ltb 16384 letters h)

  pub length_0 : letters ≤ 16384 → given (length_check sequence letters ∷ []) ≡ refusal 0 0 0
  unfolding given length_check first_of
  length_0 h = passes_on (refusal 5 sequence 0) [] (refusal 0 0 0) (le-ltb 16384 letters h)

module _ (sequence : ℕ) (s : List ℕ) {bad : ℕ} (e : bad ≡ bad_place s) where
  pub letters_6 : 0 < bad → given (letter_check sequence s ∷ []) ≡ refusal 6 sequence bad
  unfolding given letter_check
  letters_6 h = rw e (applies (refusal 6 sequence (bad_place s)) [] (refusal 0 0 0) (lt-ltb 0 (bad_place s) (omega arith)))

  pub letters_0 : bad ≤ 0 → given (letter_check sequence s ∷ []) ≡ refusal 0 0 0
  unfolding given letter_check first_of
  letters_0 h = passes_on (refusal 6 sequence (bad_place s)) [] (refusal 0 0 0) (le-ltb 0 (bad_place s) (omega arith))

-- the pieces of a job's checks, in their order
pub in_pieces : (c : Settings) (s t : List ℕ)
    → checked c s t
    ≡ given (settings_checks c ++ ((length_check 1 (length s) ∷ []) ++ ((length_check 2 (length t) ∷ []) ++ ((letter_check 1 s ∷ []) ++ (letter_check 2 t ∷ [])))))
unfolding checked checks length_checks letter_checks
in_pieces c s t = refl

-- ---- a job that is not refused

pub inside : (low high n : ℕ) → outside low high n ≡ false → (low ≤ n) × (n ≤ high)
unfolding outside
inside low high n e = go (tested (outside low high n))
  where
    go : T (outside low high n) ⊎ (¬ T (outside low high n)) → (low ≤ n) × (n ≤ high)
    go (inl t) = absurd (subst T e t)
    go (inr f) =
        let a : ¬ (n < low) = λ h. f (simp tests (λ k. absurd (k h))) in
        let b : ¬ (high < n) = λ h. f (simp tests (λ _. h)) in
        (omega arith, omega arith)

pub number_of : (t : Bool) (n q d : ℕ) (a : Answer) → (cond t (refusal n q d) a).number ≡ 0 → (n ≡ 0 → ⊥) → (t ≡ false) × (a.number ≡ 0)
unfolding refusal
number_of true n q d a e h = absurd (h e)
number_of false n q d a e h = (refl, e)

pub accepted : (c : Settings) (first second : List ℕ) → (checked c first second).number ≡ 0 → Accepted c first second
unfolding checked given first_of checks settings_checks length_checks length_check letter_checks letter_check
accepted c first second e =
    let n1 = number_of (outside 1 31 c.k) 1 0 0 _ e (λ z. omega arith) in
    let n2 = number_of (outside 1 1024 c.b) 2 0 0 _ n1.1 (λ z. omega arith) in
    let n3 = number_of (outside 1 1024 c.a) 3 0 0 _ n2.1 (λ z. omega arith) in
    let n4 = number_of (outside 0 16384 c.m) 4 0 0 _ n3.1 (λ z. omega arith) in
    let n9 = number_of (outside 0 1 c.strand) 9 0 0 _ n4.1 (λ z. omega arith) in
    let n10 = number_of (outside 0 1 c.mask) 10 0 0 _ n9.1 (λ z. omega arith) in
    let n5 = number_of (ltb 16384 (length first)) 5 1 0 _ n10.1 (λ z. omega arith) in
    let n6 = number_of (ltb 16384 (length second)) 5 2 0 _ n5.1 (λ z. omega arith) in
    let k = inside 1 31 c.k n1.0 in
    record {
      some_base = k.0;
      few_bases = k.1;
      one_or_both = (inside 0 1 c.strand n9.0).1;
      short_first = ltb-false _ _ n5.0;
      short_second = ltb-false _ _ n6.0;
    }

-- sequences that are as long are accepted where the others are: the turned one, and both as they are read
as_long : {c : Settings} {s t u v : List ℕ} → length u ≡ length s → length v ≡ length t → Accepted c s t → Accepted c u v
as_long e f ok =
    record {
      some_base = ok.some_base;
      few_bases = ok.few_bases;
      one_or_both = ok.one_or_both;
      short_first = (let h = ok.short_first in omega arith);
      short_second = (let h = ok.short_second in omega arith);
    }

pub turned_accepted : {c : Settings} {s t : List ℕ} → Accepted c s t → Accepted c s (reverse_complement t)
turned_accepted {t = t} = as_long refl (turned_length t)

pub read_accepted : {c : Settings} {s t : List ℕ} (mask : ℕ) → Accepted c s t → Accepted c (as_read mask s) (as_read mask t)
read_accepted {s = s} {t = t} mask = as_long (read_length mask s) (read_length mask t)

-- ---- the numbers of the refusals that need no room: 1 to 6, 9 or 10, so neither 7 nor 8

pub data Early (n : ℕ) : Type 0 where
  before_7 : n ≤ 6 → Early n
  is_9 : n ≡ 9 → Early n
  is_10 : n ≡ 10 → Early n

few : (t : Bool) (n q d : ℕ) (a : Answer) → Early n → Early a.number → Early (cond t (refusal n q d) a).number
unfolding refusal
few true n q d a h g = h
few false n q d a h g = g

pub number_early : (c : Settings) (first second : List ℕ) → Early (checked c first second).number
unfolding checked given first_of checks settings_checks length_checks length_check letter_checks letter_check
number_early c first second =
    few (outside 1 31 c.k) 1 0 0 _ (before_7 (omega arith))
    (few (outside 1 1024 c.b) 2 0 0 _ (before_7 (omega arith))
    (few (outside 1 1024 c.a) 3 0 0 _ (before_7 (omega arith))
    (few (outside 0 16384 c.m) 4 0 0 _ (before_7 (omega arith))
    (few (outside 0 1 c.strand) 9 0 0 _ (is_9 refl)
    (few (outside 0 1 c.mask) 10 0 0 _ (is_10 refl)
    (few (ltb 16384 (length first)) 5 1 0 _ (before_7 (omega arith))
    (few (ltb 16384 (length second)) 5 2 0 _ (before_7 (omega arith))
    (few (ltb 0 (bad_place first)) 6 1 (bad_place first) _ (before_7 (omega arith))
    (few (ltb 0 (bad_place second)) 6 2 (bad_place second) (refusal 0 0 0) (before_7 (omega arith)) (before_7 (omega arith)))))))))))

early_small : {n : ℕ} → Early n → n ≤ 10
early_small (before_7 h) = omega arith
early_small (is_9 e) = omega arith
early_small (is_10 e) = omega arith

early_not : {n : ℕ} → Early n → (n ≡ 7 → ⊥) × (n ≡ 8 → ⊥)
early_not (before_7 h) = (λ e. omega arith, λ e. omega arith)
early_not (is_9 e) = (λ d. omega arith, λ d. omega arith)
early_not (is_10 e) = (λ d. omega arith, λ d. omega arith)

pub number_small : (c : Settings) (first second : List ℕ) → (checked c first second).number ≤ 10
number_small c first second = early_small (number_early c first second)

pub no_room_number : (c : Settings) (first second : List ℕ) → ((checked c first second).number ≡ 7 → ⊥) × ((checked c first second).number ≡ 8 → ⊥)
no_room_number c first second = early_not (number_early c first second)
