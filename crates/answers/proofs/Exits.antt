-- What an error that a `?` hands on is the answer of. Assumes nothing.
use Rattle.std.proofs.Common.{◌≡◌, ℕ, Result, Err, refl, ap, ◌∙◌}
use Rattle.std.specs.Result.{IsErrAnd}
use Rattle.std.proofs.lemmas.Result.{err_from_is_err_and}
use Rattle.rules.specs.declared.Answer.{Answer}
use Rattle.rules.specs.Answers.{refusal}
use Rattle.answers.specs.declared.Tallies.{Tallies}
use Rattle.answers.specs.declared.refusal.Refusal.{Refusal}
use Rattle.answers.specs.Outcomes.{refusal_of, answer_of, built_of, check_of, reply_of}

-- a check that passes has number 0
pub number_0 : (refusal 0 0 0).number ≡ 0
unfolding refusal
number_0 = refl

module _ (because : Refusal) {x : Answer} where
  pub check_exit : {A : Type 0} (r : Result A Refusal) → IsErrAnd r (λ e. e ≡ because) → refusal_of because ≡ x → check_of r ≡ x
  check_exit {A} r exit is =
      let e = err_from_is_err_and r exit in
      ap (λ (s : Result A Refusal). check_of s) e.1 ∙ ap refusal_of e.2 ∙ is

  pub answer_exit : (r : Result Tallies Refusal) → IsErrAnd r (λ e. e ≡ because) → refusal_of because ≡ x → answer_of r ≡ x
  answer_exit r exit is =
      let e = err_from_is_err_and r exit in
      ap answer_of e.1 ∙ ap refusal_of e.2 ∙ is

  pub built_exit : (r : Result ℕ Refusal) → IsErrAnd r (λ e. e ≡ because) → refusal_of because ≡ x → built_of r ≡ x
  built_exit r exit is =
      let e = err_from_is_err_and r exit in
      ap built_of e.1 ∙ ap refusal_of e.2 ∙ is

pub reply_exit : (because : Refusal) (r : Result ℕ Refusal) → IsErrAnd r (λ e. e ≡ because) → reply_of r ≡ reply_of (Err because)
reply_exit because r exit =
    let e = err_from_is_err_and r exit in
    ap reply_of e.1 ∙ ap (λ (d : Refusal). reply_of (Err d)) e.2
