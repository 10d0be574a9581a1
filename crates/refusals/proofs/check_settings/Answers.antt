-- `refusals::check_settings` meets its contract: each exit gives the first line that refuses, where those before it pass. Assumes nothing.
use Rattle.std.proofs.Common.{◌≡◌, List, [], ◌∷◌, refl, sym, ◌∙◌, arith}
use Rattle.rules.specs.declared.Settings.{Settings}
use Rattle.rules.specs.declared.Answer.{Answer}
use Rattle.rules.specs.Answers.{Line, on, refusal, outside, settings_checks, given}
use Rattle.refusals.proofs.Checking.{refuses, passes, line_refuses}
use Rattle.refusals.proofs.check_settings.Goals as goal

module _ (c : Settings) where
  abbrev line_k : Line Answer
  line_k = on (outside 1 31 c.k) (refusal 1 0 0)

  abbrev line_b : Line Answer
  line_b = on (outside 1 1024 c.b) (refusal 2 0 0)

  abbrev line_a : Line Answer
  line_a = on (outside 1 1024 c.a) (refusal 3 0 0)

  abbrev line_m : Line Answer
  line_m = on (outside 0 16384 c.m) (refusal 4 0 0)

  abbrev line_strand : Line Answer
  line_strand = on (outside 0 1 c.strand) (refusal 9 0 0)

  abbrev line_mask : Line Answer
  line_mask = on (outside 0 1 c.mask) (refusal 10 0 0)

  -- the lines behind one
  abbrev after_strand : List (Line Answer)
  after_strand = line_mask ∷ []

  abbrev after_m : List (Line Answer)
  after_m = line_strand ∷ after_strand

  abbrev after_a : List (Line Answer)
  after_a = line_m ∷ after_m

  abbrev after_b : List (Line Answer)
  after_b = line_a ∷ after_a

  abbrev after_k : List (Line Answer)
  after_k = line_b ∷ after_b

  module _ (k_passes : refusal 0 0 0 ≡ given (line_k ∷ [])) where
    past_k : given (settings_checks c) ≡ given after_k
    unfolding settings_checks
    past_k = passes after_k refl (line_refuses (outside 1 31 c.k) 1 0 0 (λ z. omega arith)) k_passes

    module _ (b_passes : refusal 0 0 0 ≡ given (line_b ∷ [])) where
      past_b : given (settings_checks c) ≡ given after_b
      past_b = passes after_b past_k (line_refuses (outside 1 1024 c.b) 2 0 0 (λ z. omega arith)) b_passes

      module _ (a_passes : refusal 0 0 0 ≡ given (line_a ∷ [])) where
        past_a : given (settings_checks c) ≡ given after_a
        past_a = passes after_a past_b (line_refuses (outside 1 1024 c.a) 3 0 0 (λ z. omega arith)) a_passes

        module _ (m_passes : refusal 0 0 0 ≡ given (line_m ∷ [])) where
          past_m : given (settings_checks c) ≡ given after_m
          past_m = passes after_m past_a (line_refuses (outside 0 16384 c.m) 4 0 0 (λ z. omega arith)) m_passes

          module _ (strand_passes : refusal 0 0 0 ≡ given (line_strand ∷ [])) where
            past_strand : given (settings_checks c) ≡ given after_strand
            past_strand = passes after_strand past_m (line_refuses (outside 0 1 c.strand) 9 0 0 (λ z. omega arith)) strand_passes

pub returns-in_err-check_setting : goal.returns-in_err-check_setting
unfolding settings_checks
returns-in_err-check_setting c =
    refuses (after_k c.args.c) refl (line_refuses _ 1 0 0 (λ z. omega arith)) c.in_err-check_setting.field-0.0 c.from_residual.result c.from_residual.ensures.1 c.in_err-check_setting.ensures

pub returns-in_err-check_setting-2 : goal.returns-in_err-check_setting-2
returns-in_err-check_setting-2 c =
    refuses (after_b c.args.c) (past_k c.args.c c.in_ok-check_setting.ensures) (line_refuses _ 2 0 0 (λ z. omega arith)) c.in_err-check_setting-2.field-0.0 c.from_residual-in_err-check_setting-2.result c.from_residual-in_err-check_setting-2.ensures.1 c.in_err-check_setting-2.ensures

pub returns-in_err-check_setting-3 : goal.returns-in_err-check_setting-3
returns-in_err-check_setting-3 c =
    refuses (after_a c.args.c) (past_b c.args.c c.in_ok-check_setting.ensures c.in_ok-check_setting-2.ensures) (line_refuses _ 3 0 0 (λ z. omega arith)) c.in_err-check_setting-3.field-0.0 c.from_residual-in_err-check_setting-3.result c.from_residual-in_err-check_setting-3.ensures.1 c.in_err-check_setting-3.ensures

pub returns-in_err-check_setting-4 : goal.returns-in_err-check_setting-4
returns-in_err-check_setting-4 c =
    refuses (after_m c.args.c) (past_a c.args.c c.in_ok-check_setting.ensures c.in_ok-check_setting-2.ensures c.in_ok-check_setting-3.ensures) (line_refuses _ 4 0 0 (λ z. omega arith)) c.in_err-check_setting-4.field-0.0 c.from_residual-in_err-check_setting-4.result c.from_residual-in_err-check_setting-4.ensures.1 c.in_err-check_setting-4.ensures

pub returns-in_err-check_setting-5 : goal.returns-in_err-check_setting-5
returns-in_err-check_setting-5 c =
    refuses (after_strand c.args.c) (past_m c.args.c c.in_ok-check_setting.ensures c.in_ok-check_setting-2.ensures c.in_ok-check_setting-3.ensures c.in_ok-check_setting-4.ensures) (line_refuses _ 9 0 0 (λ z. omega arith)) c.in_err-check_setting-5.field-0.0 c.from_residual-in_err-check_setting-5.result c.from_residual-in_err-check_setting-5.ensures.1 c.in_err-check_setting-5.ensures

pub returns : goal.returns
returns c = c.check_setting-6.ensures ∙ sym (past_strand c.args.c c.in_ok-check_setting.ensures c.in_ok-check_setting-2.ensures c.in_ok-check_setting-3.ensures c.in_ok-check_setting-4.ensures c.in_ok-check_setting-5.ensures)
