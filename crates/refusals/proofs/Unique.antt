-- A check of one sequence has one result. Assumes nothing.
use Rattle.std.proofs.Common.{◌≡◌, refl, ap, sym, ◌∙◌, List, [], ◌∷◌, ℕ, Result, Ok, Err, arith, ◌<◌, lit<}
use Rattle.rules.specs.declared.Answer.{Answer}
use Rattle.rules.specs.Answers.{refusal}
use Rattle.refusals.specs.declared.TooLong.{TooLong}
use Rattle.refusals.specs.declared.BadLetter.{BadLetter}
use Rattle.refusals.specs.Answered.{length_answer, letters_answer}

-- no refusal is a pass
passes_not : {A : Type 0} (m q d : ℕ) → refusal 0 0 0 ≡ refusal m q d → 0 < m → A
unfolding refusal
passes_not m q d e h = absurd (omega (arith, ap (λ (x : Answer). x.number) e, h))

-- any two results of `refusals::check_length` are equal
pub length_one : (told : ℕ → Answer) (r q : Result (Unit {0}) TooLong) → ((n : ℕ) → length_answer n r ≡ told n) → ((n : ℕ) → length_answer n q ≡ told n)
    → r ≡ q
length_one told (Ok _) (Ok _) f g = refl
length_one told (Ok _) (Err _) f g = passes_not 5 0 0 (f 0 ∙ sym (g 0)) (lit< tt)
length_one told (Err _) (Ok _) f g = passes_not 5 0 0 (g 0 ∙ sym (f 0)) (lit< tt)
length_one told (Err _) (Err _) f g = refl

-- any two results of `refusals::check_letters` are equal
pub letters_one : (told : ℕ → Answer) (r q : Result (Unit {0}) BadLetter) → ((n : ℕ) → letters_answer n r ≡ told n)
    → ((n : ℕ) → letters_answer n q ≡ told n) → r ≡ q
unfolding refusal
letters_one told (Ok _) (Ok _) f g = refl
letters_one told (Ok _) (Err b) f g = passes_not 6 0 b.place (f 0 ∙ sym (g 0)) (lit< tt)
letters_one told (Err a) (Ok _) f g = passes_not 6 0 a.place (g 0 ∙ sym (f 0)) (lit< tt)
letters_one told (Err a) (Err b) f g = ap (λ place. Err (record { place = place })) (ap (λ (x : Answer). x.detail) (f 0 ∙ sym (g 0)))
