-- The entry points over an index: refused by the checks or for the slice, with the rooms as they were, or the plain job. Assumes nothing.
use Rattle.std.proofs.Common.{◌≡◌, ℕ, ◌≤◌, List, [], ◌++◌, length, take, T, Result, Ok, Err, refl, sym, ap, subst, ◌∙◌, arith}
use mathlib.Core.Path.{subst⁻¹}
use Rattle.index.specs.declared.WrongSlice.{WrongSlice}
use Rattle.index.specs.Held.{held_of}
use Rattle.std.specs.Result.{IsErrAnd}
use Rattle.rules.specs.declared.Settings.{Settings}
use Rattle.rules.specs.Letters.{as_read}
use Rattle.rules.specs.Places.{places}
use Rattle.rules.specs.Codes.{codes}
use Rattle.rules.specs.Answers.{Outcome, left, checked, compared, stopped}
use Rattle.rules.proofs.Outcomes.{left_path}
use Rattle.requests.specs.Index.{index_of_codes, kmer_places, codes_of, index_of, begins_with, indexed, swept_over, compared_over, stopped_over}
use Rattle.requests.proofs.OverIndex.{over_refused, over_12, over_plain}
use Rattle.answers.specs.declared.Tallies.{Tallies}
use Rattle.answers.specs.declared.refusal.Refusal.{Refusal}
use Rattle.answers.specs.declared.refusal.Refusal.TheVariants.{WrongIndex}
use Rattle.answers.specs.Outcomes.{refusal_of, answer_of}
use Rattle.answers.proofs.Exits.{answer_exit}
use Rattle.refusals.proofs.Checking.{accepted}
use Rattle.kmers.proofs.Codes.{coded_front, places_few}
use Rattle.index.specs.Keys.{Keyed, Indexed, numbers_read}
use Rattle.index.proofs.Passes.{held_right, held_wrong, held_indexed}
use Rattle.mirrored.specs.Mirrored.{FirstFits}
use Rattle.compare.specs.Ready.{Ready}
use Rattle.compare.proofs.Entries.{not_passed, refuses, refuses_stop, number_passed}
use Rattle.indexed.specs.Found.{Found, Wrong}

module _ (c : Settings) (s t index : List ℕ) where
  module _ (e : Refusal) (r : Result Tallies Refusal) (exit : IsErrAnd r (λ d. d ≡ e)) where
    -- a call that hands on what the checks refused
    module _ (because : refusal_of e ≡ checked c s t) where
      pub refuses_over : (work list : List ℕ) → left (answer_of r) work list ≡ compared_over c s t index work list
      unfolding compared_over
      refuses_over work list = refuses c s t e because r exit work list ∙ sym (over_refused c s t index work list (compared c s t work list) (not_passed c s t e because))

      pub refuses_stop_over : (work : List ℕ) (row : ℕ) → left (answer_of r) work [] ≡ stopped_over c s t index work row
      unfolding stopped_over
      refuses_stop_over work row =
          refuses_stop c s t e because r exit work row ∙ sym (over_refused c s t index work [] (stopped c s t work row) (not_passed c s t e because))

    -- and one that hands on that the slice is wrong
    module _ {coded : List ℕ} (y : Ready c s t coded) (w : Wrong c t index e) where
      wrong : (work list : List ℕ) (plain : Outcome) → left (answer_of r) work list ≡ swept_over c s t index work list plain
      wrong work list plain =
          left_path (answer_exit e r exit (ap refusal_of w.because)) refl refl ∙ sym (over_12 c s t index work list plain (number_passed c s t y) w.wrong)

      pub wrong_compare : (work list : List ℕ) → left (answer_of r) work list ≡ compared_over c s t index work list
      unfolding compared_over
      wrong_compare work list = wrong work list (compared c s t work list)

      pub wrong_stop : (work : List ℕ) (row : ℕ) → left (answer_of r) work [] ≡ stopped_over c s t index work row
      unfolding stopped_over
      wrong_stop work row = wrong work [] (stopped c s t work row)

  -- it is right
  module _ {codes : List ℕ} (f : Found c t index codes) where
    pub right_compare : (work list : List ℕ) {o : Outcome} → o ≡ compared c s t work list → o ≡ compared_over c s t index work list
    unfolding compared_over
    right_compare work list e = e ∙ sym (over_plain c s t index work list (compared c s t work list) f.right)

    pub right_stop : (work : List ℕ) (row : ℕ) {o : Outcome} → o ≡ stopped c s t work row → o ≡ stopped_over c s t index work row
    unfolding stopped_over
    right_stop work row e = e ∙ sym (over_plain c s t index work [] (stopped c s t work row) f.right)

module _ (c : Settings) (s t : List ℕ) {coded : List ℕ} (y : Ready c s t coded) where
  pub fits_first : FirstFits c s coded
  unfolding codes_of
  fits_first =
      let ok = accepted c s t (number_passed c s t y) in
      record { some_base = ok.some_base; few_bases = ok.few_bases; short_first = ok.short_first; coded_are = y.coded_are }

-- a slice held against the codes of a second sequence, which stand in front of an array
module _ (c : Settings) (t index rest : List ℕ) {out : List ℕ} {columns : ℕ} (n : columns ≡ places c.k t) (d : out ≡ codes c.k (as_read c.mask t) ++ rest)
    {held : Result ℕ WrongSlice} (v : held ≡ held_of (begins_with (index_of_codes (take columns out)) index) (kmer_places (take columns out))) where
  codes_are : take columns out ≡ codes_of c.k c.mask t
  unfolding codes_of
  codes_are = (coded_front _ _ _ rest n d).front

  begins_is : begins_with (index_of_codes (take columns out)) index ≡ indexed c t index
  unfolding indexed index_of
  begins_is = ap (λ (l : List ℕ). begins_with (index_of_codes l) index) codes_are

  pub few_codes : 1 ≤ c.k → length t ≤ 16384 → length (take columns out) ≤ 16384
  few_codes k l = omega (arith, (coded_front _ _ _ rest n d).long, n, places_few c.k t k l)

  pub is_wrong : {e : WrongSlice} → held ≡ Err e → Wrong c t index WrongIndex
  is_wrong e = record { wrong = λ u. subst T (sym begins_is ∙ held_wrong _ _ v e) u; because = refl }

  module _ {places : ℕ} (e : held ≡ Ok places) where
    pub is_right : Found c t index (take columns out)
    is_right = record { right = subst⁻¹ T (sym begins_is ∙ (held_right _ _ v e).0) tt; codes_are = codes_are }

    pub is_counted : places ≡ kmer_places (take columns out)
    is_counted = (held_right _ _ v e).1

    pub is_indexed : {keys₀ keys : List ℕ} → length (take columns out) ≤ length keys₀
        → Keyed (take columns out) index keys₀ keys (numbers_read (kmer_places (take columns out)) index) → Indexed (take columns out) index keys
    is_indexed room keyed = held_indexed (subst⁻¹ T (held_right _ _ v e).0 tt) room keyed
