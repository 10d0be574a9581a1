-- The entry points: a refused job ends with its rooms untouched, and an accepted one is the job on the codes of its own letters, as
-- they are read. Assumes nothing.
use mathlib.Core.Path.{◌≡◌, refl, sym, ap, ◌∙◌}
use mathlib.Core.List.{List, []}
use Prim.Native.Nat.{ℕ}
use native.Mathlib.Omega.{arith}
use borrow.Author.Tests.{eq-eqb, ne_eqb}
use lib.ListN.{length}
use Rattle.std.specs.Prelude.{Result}
use Rattle.std.specs.Result.{IsErrAnd}
use Rattle.rules.specs.declared.Settings.{Settings}
use Rattle.rules.specs.Letters.{as_read}
use Rattle.rules.specs.Answers.{Outcome, left, refusal, checked, after_checks, compared, stopped, replied}
use Rattle.rules.proofs.Outcomes.{left_path}
use Rattle.rules.proofs.Kmers.{codes_length}
use Rattle.rules.proofs.Masks.{read_places}
use Rattle.kmers.proofs.Codes.{places_few}
use Rattle.answers.specs.declared.refusal.Refusal.{Refusal}
use Rattle.answers.specs.declared.Tallies.{Tallies}
use Rattle.answers.specs.Outcomes.{numbers_of, refusal_of, answer_of, reply_of}
use Rattle.answers.proofs.Unique.{refusal_refuses}
use Rattle.answers.proofs.Exits.{number_0, answer_exit, reply_exit}
use Rattle.refusals.proofs.Checking.{number_passes, number_refuses, accepted}
use Rattle.walks.specs.Matched.{Fits}
use Rattle.accepted.specs.Coded.{compared_coded, stopped_coded, needed_coded}
use Rattle.compare.specs.Ready.{Ready}
use Rattle.accepted.proofs.Coded.{compared_own, stopped_own, needed_own}

-- ---- refused, and accepted

module _ (c : Settings) (s t work list : List ℕ) (rest : Outcome) where
  after_refused : ((checked c s t).number ≡ 0 → ⊥) → after_checks c s t work list rest ≡ left (checked c s t) work list
  unfolding after_checks
  after_refused h = rw (ne_eqb (checked c s t).number 0 h)

  pub after_accepted : (checked c s t).number ≡ 0 → after_checks c s t work list rest ≡ rest
  unfolding after_checks
  after_accepted e = rw (eq-eqb (checked c s t).number 0 e)

pub compare_refused : (c : Settings) (s t work list : List ℕ) → ((checked c s t).number ≡ 0 → ⊥) → compared c s t work list ≡ left (checked c s t) work list
unfolding compared
compare_refused c s t work list h = after_refused c s t work list _ h

pub stop_refused : (c : Settings) (s t work : List ℕ) (row : ℕ) → ((checked c s t).number ≡ 0 → ⊥) → stopped c s t work row ≡ left (checked c s t) work []
unfolding stopped
stop_refused c s t work row h = after_refused c s t work [] _ h

-- a call that hands on what the checks refused
module _ (c : Settings) (s t : List ℕ) (e : Refusal) (because : refusal_of e ≡ checked c s t) where
  pub not_passed : (checked c s t).number ≡ 0 → ⊥
  not_passed = number_refuses because (refusal_refuses e)

  module _ (r : Result Tallies Refusal) (exit : IsErrAnd r (λ d. d ≡ e)) where
    pub refuses : (work list : List ℕ) → left (answer_of r) work list ≡ compared c s t work list
    refuses work list = left_path (answer_exit e r exit because) refl refl ∙ sym (compare_refused c s t work list not_passed)

    pub refuses_stop : (work : List ℕ) (row : ℕ) → left (answer_of r) work [] ≡ stopped c s t work row
    refuses_stop work row = left_path (answer_exit e r exit because) refl refl ∙ sym (stop_refused c s t work row not_passed)

  pub refuses_need : (r : Result ℕ Refusal) → IsErrAnd r (λ d. d ≡ e) → reply_of r ≡ replied c s t
  unfolding replied refusal
  refuses_need r exit = reply_exit e r exit ∙ rw (← because, ne_eqb (numbers_of e).0 0 (refusal_refuses e))

-- ---- the codes of an accepted job

module _ (c : Settings) (s t : List ℕ) {coded : List ℕ} (y : Ready c s t coded) where
  pub number_passed : (checked c s t).number ≡ 0
  number_passed = number_passes (sym y.passed) number_0

  -- both sequences as they are read
  abbrev s' : List ℕ
  s' = as_read c.mask s

  abbrev t' : List ℕ
  t' = as_read c.mask t

  pub fits : Fits c coded t
  fits =
      let ok = accepted c s t number_passed in
      let few = places_few c.k s ok.some_base ok.short_first in
      record {
        some_base = ok.some_base;
        few_bases = ok.few_bases;
        one_or_both = ok.one_or_both;
        few_rows = omega (arith, few, ap length y.coded_are, codes_length c.k s', read_places c.mask c.k s);
        short_second = ok.short_second;
      }

  -- ---- the jobs on them

  pub compares : (work list : List ℕ) {o : Outcome} → o ≡ compared_coded c coded t' work list → o ≡ compared c s t work list
  unfolding compared
  compares work list e =
      e ∙ ap (λ (l : List ℕ). compared_coded c l t' work list) y.coded_are ∙ compared_own c s' t' work list ∙ sym (after_accepted c s t work list _ number_passed)

  pub stops : (work : List ℕ) (row : ℕ) {o : Outcome} → o ≡ stopped_coded c coded t' work row → o ≡ stopped c s t work row
  unfolding stopped
  stops work row e =
      e ∙ ap (λ (l : List ℕ). stopped_coded c l t' work row) y.coded_are ∙ stopped_own c s' t' work row ∙ sym (after_accepted c s t work [] _ number_passed)

  pub replies : {n : ℕ} → n ≡ needed_coded c coded t' → n ≡ replied c s t
  unfolding replied
  replies e =
      e ∙ ap (λ (l : List ℕ). needed_coded c l t') y.coded_are ∙ needed_own c s' t' ∙ sym (rw (eq-eqb (checked c s t).number 0 number_passed))
