-- An answer tells what it is the answer of: no two outcomes of a job, and no two of a check, have the same one. Assumes nothing.
use Rattle.std.proofs.Common.{◌≡◌, ℕ, cond, eqb, List, Result, Ok, Err, refl, sym, ap, ◌∙◌, arith}
use Rattle.rules.specs.declared.Answer.{Answer}
use Rattle.rules.specs.Answers.{Outcome, left, refusal, done}
use Rattle.answers.specs.declared.Tallies.{Tallies}
use Rattle.answers.specs.declared.refusal.Sequence.{Sequence}
use Rattle.answers.specs.declared.refusal.Sequence.TheVariants.{First, Second}
use Rattle.answers.specs.declared.refusal.Refusal.{Refusal}
use Rattle.answers.specs.declared.refusal.Refusal.TheVariants.{KmerLength, GapBound, RepeatCap, LeastSpan, TooLong, BadLetter, WorkRoom, ListRoom, Strand, Mask, IndexRoom, WrongIndex, NoRow}
use Rattle.answers.specs.Outcomes.{sequence_number, refusal_of, answer_of, built_of, check_of, reply_of}

-- the refusal that has an answer's numbers
sequence_of : ℕ → Sequence
sequence_of n = cond (eqb n 1) First Second

refused_by : ℕ → ℕ → ℕ → Refusal
refused_by n sequence detail =
    cond (eqb n 1) KmerLength
    (cond (eqb n 2) GapBound
    (cond (eqb n 3) RepeatCap
    (cond (eqb n 4) LeastSpan
    (cond (eqb n 5) (TooLong (sequence_of sequence))
    (cond (eqb n 6) (BadLetter (sequence_of sequence) detail)
    (cond (eqb n 7) (WorkRoom detail)
    (cond (eqb n 8) (ListRoom detail)
    (cond (eqb n 9) Strand
    (cond (eqb n 10) Mask
    (cond (eqb n 11) (IndexRoom detail)
    (cond (eqb n 12) WrongIndex (NoRow detail))))))))))))

-- what an answer is the answer of
outcome : Answer → Result Tallies Refusal
outcome x =
    cond (eqb x.number 0) (Ok (record { listed = x.listed; matches = x.matches; widest = x.widest; links = x.links }))
    (Err (refused_by x.number x.sequence x.detail))

sequence_same : (s : Sequence) → sequence_of (sequence_number s) ≡ s
unfolding sequence_of
sequence_same First = refl
sequence_same Second = refl

refused_same : (r : Refusal) → outcome (refusal_of r) ≡ Err r
unfolding outcome refused_by refusal
refused_same KmerLength = refl
refused_same GapBound = refl
refused_same RepeatCap = refl
refused_same LeastSpan = refl
refused_same (TooLong s) = ap (λ (t : Sequence). Err (TooLong t)) (sequence_same s)
refused_same (BadLetter s place) = ap (λ (t : Sequence). Err (BadLetter t place)) (sequence_same s)
refused_same (WorkRoom n) = refl
refused_same (ListRoom n) = refl
refused_same Strand = refl
refused_same Mask = refl
refused_same (IndexRoom n) = refl
refused_same WrongIndex = refl
refused_same (NoRow n) = refl

outcome_same : (r : Result Tallies Refusal) → outcome (answer_of r) ≡ r
unfolding outcome done
outcome_same (Ok t) = refl
outcome_same (Err r) = refused_same r

-- two refusals have two answers
to_refusal : Result Tallies Refusal → Refusal → Refusal
to_refusal (Ok t) d = d
to_refusal (Err e) d = e

pub one_refusal : {d e : Refusal} → refusal_of d ≡ refusal_of e → d ≡ e
unfolding to_refusal
one_refusal {d} {e} same =
    sym (ap (λ (r : Result Tallies Refusal). to_refusal r d) (refused_same d)) ∙ ap (λ (x : Answer). to_refusal (outcome x) d) same
    ∙ ap (λ (r : Result Tallies Refusal). to_refusal r d) (refused_same e)

-- a refusal's number is not 0
pub refusal_refuses : (r : Refusal) → (refusal_of r).number ≡ 0 → ⊥
unfolding refusal
refusal_refuses KmerLength z = omega arith
refusal_refuses GapBound z = omega arith
refusal_refuses RepeatCap z = omega arith
refusal_refuses LeastSpan z = omega arith
refusal_refuses (TooLong s) z = omega arith
refusal_refuses (BadLetter s p) z = omega arith
refusal_refuses (WorkRoom n) z = omega arith
refusal_refuses (ListRoom n) z = omega arith
refusal_refuses Strand z = omega arith
refusal_refuses Mask z = omega arith
refusal_refuses (IndexRoom n) z = omega arith
refusal_refuses WrongIndex z = omega arith
refusal_refuses (NoRow n) z = omega arith

-- what a check came to, by what its answer is the answer of
checked_as : Result Tallies Refusal → Result (Unit {0}) Refusal
checked_as (Ok t) = Ok tt
checked_as (Err r) = Err r

check_same : (r : Result (Unit {0}) Refusal) → checked_as (outcome (check_of r)) ≡ r
unfolding outcome checked_as refusal
check_same (Ok u) = refl
check_same (Err r) = ap checked_as (refused_same r)

-- and an index, of the number of its places
places_as : Result Tallies Refusal → Result ℕ Refusal
places_as (Ok t) = Ok t.listed
places_as (Err r) = Err r

built_same : (r : Result ℕ Refusal) → places_as (outcome (built_of r)) ≡ r
unfolding outcome places_as done
built_same (Ok n) = refl
built_same (Err r) = ap places_as (refused_same r)

pub one_built : {r s : Result ℕ Refusal} → built_of r ≡ built_of s → r ≡ s
one_built {r} {s} e = sym (built_same r) ∙ ap (λ (x : Answer). places_as (outcome x)) e ∙ built_same s

-- any two results of `jobs::finish`, `jobs::compare_matches`, `stopping::stop_matches`, `accepted::compare_coded` and `accepted::stop_coded` are equal,
-- any two results of `admitted::compare_indexed`, `admitted::stop_indexed`, `compare::compare` and `compare::stopped` are,
-- any two results of `indexed::compare_over` and `indexed::stopped_over` are, and so are the rooms that these leave
pub one_outcome : {r s : Result Tallies Refusal} {work work' list list' : List ℕ} → left (answer_of r) work list ≡ left (answer_of s) work' list'
    → (r ≡ s) × (work ≡ work') × (list ≡ list')
one_outcome {r} {s} e =
    (sym (outcome_same r) ∙ ap (λ (o : Outcome). outcome o.answer) e ∙ outcome_same s, ap (λ (o : Outcome). o.work) e, ap (λ (o : Outcome). o.list) e)

-- any two results of `refusals::check_settings`, `refusals::check_setting`, `refusals::check_sequence` and `refusals::check` are equal
pub one_check : {r s : Result (Unit {0}) Refusal} → check_of r ≡ check_of s → r ≡ s
one_check {r} {s} e = sym (check_same r) ∙ ap (λ (x : Answer). checked_as (outcome x)) e ∙ check_same s

refused_need : (d : Refusal) → places_as (outcome (refusal_of d)) ≡ Err d
unfolding places_as
refused_need d = ap places_as (refused_same d)

same_need : (r s : Result ℕ Refusal) → check_of r ≡ check_of s → reply_of r ≡ reply_of s → r ≡ s
unfolding refusal
same_need (Ok n) (Ok m) c e = ap (λ (k : ℕ). Ok k) e
same_need (Ok n) (Err d) c e = absurd (refusal_refuses d (sym (ap (λ (x : Answer). x.number) c)))
same_need (Err d) (Ok m) c e = absurd (refusal_refuses d (ap (λ (x : Answer). x.number) c))
same_need (Err d) (Err f) c e = sym (refused_need d) ∙ ap (λ (x : Answer). places_as (outcome x)) c ∙ refused_need f

-- any two results of `compare::need` are equal
pub one_need : {r s : Result ℕ Refusal} → check_of r ≡ check_of s → reply_of r ≡ reply_of s → r ≡ s
one_need {r} {s} = same_need r s
