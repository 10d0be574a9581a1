-- Each kind with its count of values is one case of the definition, and the last case is none of them. Assumes nothing.
use Rattle.std.proofs.Common.{◌≡◌, ◌⊎◌, sym, ap, ◌∙◌, inl, inr, eqb-true}
use Rattle.std.proofs.lemmas.Bool.{eqb-false}
use Rattle.std.proofs.lemmas.Result.{err_from_is_err_and}
use Rattle.kinds.specs.Kind.{kind_byte}
use Rattle.frames.specs.Frames.{piece_wanted}
use Rattle.frames.proofs.Frames.{not_fitting_wanted, passed_on, answered, is_job, job_misfit, is_piece, is_end, end_misfit, is_entry, entry_misfit, is_done, done_misfit, is_reverse, reverse_misfit, is_refused, refused_misfit, no_kind}
use Rattle.frames.proofs.write_kind.Goals as goal

pub returns-in_default : goal.returns-in_default
returns-in_default c =
    let both = not_fitting_wanted _ _ (no_kind _ c.in_default.ensures.1 _) in
    record { value = both.0; line_after = both.1 }

pub returns-in_err-job_of-in-Job : goal.returns-in_err-job_of-in-Job
returns-in_err-job_of-in-Job c =
    let r = c.from_residual in
    let p = err_from_is_err_and r.result r.ensures.1 in
    let kind = ap kind_byte (sym c.in-Job.is) ∙ c.in-Ok.ensures in
    let both = not_fitting_wanted _ _ (job_misfit _ kind c.in_err-job_of-in-Job.ensures.1) in
    record { value = rw (p.1, p.2, c.in_err-job_of-in-Job.ensures.0) both.0; line_after = both.1 }

pub returns-in_ok-job_of-in-Job : goal.returns-in_ok-job_of-in-Job
returns-in_ok-job_of-in-Job c =
    let kind = ap kind_byte (sym c.in-Job.is) ∙ c.in-Ok.ensures in
    let both = answered _ (is_job _ kind c.in_ok-job_of-in-Job.ensures.0 c.in_ok-job_of-in-Job.ensures.1) c.write_job.ensures.value c.write_job.ensures.out_after in
    record { value = both.0; line_after = both.1 }

pub returns-in_err-entry_of-in-Entry : goal.returns-in_err-entry_of-in-Entry
returns-in_err-entry_of-in-Entry c =
    let r = c.from_residual-in_err-entry_of-in-Entry in
    let p = err_from_is_err_and r.result r.ensures.1 in
    let kind = ap kind_byte (sym c.in-Entry.is) ∙ c.in-Ok.ensures in
    let both = not_fitting_wanted _ _ (entry_misfit _ kind c.in_err-entry_of-in-Entry.ensures.1) in
    record { value = rw (p.1, p.2, c.in_err-entry_of-in-Entry.ensures.0) both.0; line_after = both.1 }

pub returns-in_ok-entry_of-in-Entry : goal.returns-in_ok-entry_of-in-Entry
returns-in_ok-entry_of-in-Entry c =
    let kind = ap kind_byte (sym c.in-Entry.is) ∙ c.in-Ok.ensures in
    let both = answered _ (is_entry _ kind c.in_ok-entry_of-in-Entry.ensures.0 c.in_ok-entry_of-in-Entry.ensures.1) c.write_entry.ensures.value c.write_entry.ensures.out_after in
    record { value = both.0; line_after = both.1 }

pub returns-in_err-done_of-in-Done : goal.returns-in_err-done_of-in-Done
returns-in_err-done_of-in-Done c =
    let r = c.from_residual-in_err-done_of-in-Done in
    let p = err_from_is_err_and r.result r.ensures.1 in
    let kind = ap kind_byte (sym c.in-Done.is) ∙ c.in-Ok.ensures in
    let both = not_fitting_wanted _ _ (done_misfit _ kind c.in_err-done_of-in-Done.ensures.1) in
    record { value = rw (p.1, p.2, c.in_err-done_of-in-Done.ensures.0) both.0; line_after = both.1 }

pub returns-in_ok-done_of-in-Done : goal.returns-in_ok-done_of-in-Done
returns-in_ok-done_of-in-Done c =
    let kind = ap kind_byte (sym c.in-Done.is) ∙ c.in-Ok.ensures in
    let both = answered _ (is_done _ kind c.in_ok-done_of-in-Done.ensures.0 c.in_ok-done_of-in-Done.ensures.1) c.write_done.ensures.value c.write_done.ensures.out_after in
    record { value = both.0; line_after = both.1 }

pub returns-in_err-entry_of-in-ReverseEntry : goal.returns-in_err-entry_of-in-ReverseEntry
returns-in_err-entry_of-in-ReverseEntry c =
    let r = c.from_residual-in_err-entry_of-in-ReverseEntry in
    let p = err_from_is_err_and r.result r.ensures.1 in
    let kind = ap kind_byte (sym c.in-ReverseEntry.is) ∙ c.in-Ok.ensures in
    let both = not_fitting_wanted _ _ (reverse_misfit _ kind c.in_err-entry_of-in-ReverseEntry.ensures.1) in
    record { value = rw (p.1, p.2, c.in_err-entry_of-in-ReverseEntry.ensures.0) both.0; line_after = both.1 }

pub returns-in_ok-entry_of-in-ReverseEntry : goal.returns-in_ok-entry_of-in-ReverseEntry
returns-in_ok-entry_of-in-ReverseEntry c =
    let kind = ap kind_byte (sym c.in-ReverseEntry.is) ∙ c.in-Ok.ensures in
    let both = answered _ (is_reverse _ kind c.in_ok-entry_of-in-ReverseEntry.ensures.0 c.in_ok-entry_of-in-ReverseEntry.ensures.1) c.write_reverse_entry.ensures.value c.write_reverse_entry.ensures.out_after in
    record { value = both.0; line_after = both.1 }

pub returns-in_err-refused_of-in-Refused : goal.returns-in_err-refused_of-in-Refused
returns-in_err-refused_of-in-Refused c =
    let r = c.from_residual-in_err-refused_of-in-Refused in
    let p = err_from_is_err_and r.result r.ensures.1 in
    let kind = ap kind_byte (sym c.in-Refused.is) ∙ c.in-Ok.ensures in
    let both = not_fitting_wanted _ _ (refused_misfit _ kind c.in_err-refused_of-in-Refused.ensures.1) in
    record { value = rw (p.1, p.2, c.in_err-refused_of-in-Refused.ensures.0) both.0; line_after = both.1 }

pub returns-in_ok-refused_of-in-Refused : goal.returns-in_ok-refused_of-in-Refused
returns-in_ok-refused_of-in-Refused c =
    let kind = ap kind_byte (sym c.in-Refused.is) ∙ c.in-Ok.ensures in
    let both = answered _ (is_refused _ kind c.in_ok-refused_of-in-Refused.ensures.0 c.in_ok-refused_of-in-Refused.ensures.1) c.write_refused.ensures.value c.write_refused.ensures.out_after in
    record { value = both.0; line_after = both.1 }

pub returns-in-FirstPiece : goal.returns-in-FirstPiece
returns-in-FirstPiece c =
    let either : 2 ≡ c.args.kind ⊎ 3 ≡ c.args.kind =
    elim c.in-FirstPiece.is [ inl e ↦ inl (ap kind_byte (sym e) ∙ c.in-Ok.ensures) | inr e ↦ inr (ap kind_byte (sym e) ∙ c.in-Ok.ensures) ] in
    let both = passed_on _ (is_piece _ either ∙ ap (λ n. piece_wanted n c.args.values.now) (sym c.in-Ok.ensures)) c.write_piece.ensures.value c.write_piece.ensures.line_after in
    record { value = both.0; line_after = both.1 }

pub returns-in-End : goal.returns-in-End
returns-in-End c =
    let kind = ap kind_byte (sym c.in-End.is) ∙ c.in-Ok.ensures in
    let both = answered _ (is_end _ kind (eqb-true _ _ (sym c.is_empty.ensures ∙ c.if-is_empty.true))) c.write_end.ensures.value c.write_end.ensures.out_after in
    record { value = both.0; line_after = both.1 }

pub returns-in-End-2 : goal.returns-in-End-2
returns-in-End-2 c =
    let kind = ap kind_byte (sym c.in-End-2.is) ∙ c.in-Ok.ensures in
    let both = not_fitting_wanted _ _ (end_misfit _ kind (eqb-false _ _ (sym c.is_empty.ensures ∙ c.if-is_empty.false))) in
    record { value = both.0; line_after = both.1 }
