-- `refusals::check` meets its contract: each exit gives the first piece that refuses, where those before it pass. Assumes nothing.
use Rattle.std.proofs.Common.{◌≡◌, ℕ, List, [], ◌∷◌, ◌++◌, length, sym, ◌∙◌}
use Rattle.rules.specs.declared.Settings.{Settings}
use Rattle.rules.specs.declared.Answer.{Answer}
use Rattle.rules.specs.Answers.{Line, refusal, settings_checks, length_check, letter_check, given, checked}
use Rattle.refusals.proofs.Checking.{refuses, passes, settings_refuse, length_refuses, letters_refuse, in_pieces}
use Rattle.refusals.proofs.check.Goals as goal

module _ (c : Settings) (first second : List ℕ) where
  -- the pieces that are left behind the settings, the first length, the second, and the first letters
  abbrev after_first_letters : List (Line Answer)
  after_first_letters = letter_check 2 second ∷ []

  abbrev after_second_length : List (Line Answer)
  after_second_length = (letter_check 1 first ∷ []) ++ after_first_letters

  abbrev after_first_length : List (Line Answer)
  after_first_length = (length_check 2 (length second) ∷ []) ++ after_second_length

  abbrev after_settings : List (Line Answer)
  after_settings = (length_check 1 (length first) ∷ []) ++ after_first_length

  module _ (settings_pass : refusal 0 0 0 ≡ given (settings_checks c)) where
    past_settings : checked c first second ≡ given after_settings
    past_settings = passes after_settings (in_pieces c first second) (settings_refuse c) settings_pass

    module _ (first_length_passes : refusal 0 0 0 ≡ given (length_check 1 (length first) ∷ [])) where
      past_first_length : checked c first second ≡ given after_first_length
      past_first_length = passes after_first_length past_settings (length_refuses 1 (length first)) first_length_passes

      module _ (second_length_passes : refusal 0 0 0 ≡ given (length_check 2 (length second) ∷ [])) where
        past_second_length : checked c first second ≡ given after_second_length
        past_second_length = passes after_second_length past_first_length (length_refuses 2 (length second)) second_length_passes

        past_first_letters : refusal 0 0 0 ≡ given (letter_check 1 first ∷ []) → checked c first second ≡ given after_first_letters
        past_first_letters = passes after_first_letters past_second_length (letters_refuse 1 first)

pub returns-in_err-check_settings : goal.returns-in_err-check_settings
returns-in_err-check_settings c =
    let a = c.args in
    refuses (after_settings a.c a.first.now a.second.now) (in_pieces a.c a.first.now a.second.now) (settings_refuse a.c) c.in_err-check_settings.field-0.0 c.from_residual.result c.from_residual.ensures.1 c.in_err-check_settings.ensures

pub returns-in_err-length_of : goal.returns-in_err-length_of
returns-in_err-length_of c =
    let a = c.args in
    refuses (after_first_length a.c a.first.now a.second.now) (past_settings a.c a.first.now a.second.now c.in_ok-check_settings.ensures)
    (length_refuses 1 (length a.first.now)) c.in_err-length_of.field-0.0 c.from_residual-in_err-length_of.result c.from_residual-in_err-length_of.ensures.1 c.in_err-length_of.ensures

pub returns-in_err-length_of-2 : goal.returns-in_err-length_of-2
returns-in_err-length_of-2 c =
    let a = c.args in
    refuses (after_second_length a.c a.first.now a.second.now)
    (past_first_length a.c a.first.now a.second.now c.in_ok-check_settings.ensures c.in_ok-length_of.ensures)
    (length_refuses 2 (length a.second.now)) c.in_err-length_of-2.field-0.0 c.from_residual-in_err-length_of-2.result c.from_residual-in_err-length_of-2.ensures.1 c.in_err-length_of-2.ensures

pub returns-in_err-letters_of : goal.returns-in_err-letters_of
returns-in_err-letters_of c =
    let a = c.args in
    refuses (after_first_letters a.c a.first.now a.second.now)
    (past_second_length a.c a.first.now a.second.now c.in_ok-check_settings.ensures c.in_ok-length_of.ensures c.in_ok-length_of-2.ensures)
    (letters_refuse 1 a.first.now) c.in_err-letters_of.field-0.0 c.from_residual-in_err-letters_of.result c.from_residual-in_err-letters_of.ensures.1 c.in_err-letters_of.ensures

pub returns : goal.returns
returns c =
    let a = c.args in
    c.letters_of-2.ensures
    ∙ sym (past_first_letters a.c a.first.now a.second.now c.in_ok-check_settings.ensures c.in_ok-length_of.ensures c.in_ok-length_of-2.ensures
    c.in_ok-letters_of.ensures)
