-- Each kind that has a reader is one case of the definition, and the last case is none of them. Assumes nothing.
use Rattle.std.proofs.Common.{sym, ap, ◌∙◌}
use Rattle.std.proofs.lemmas.Result.{err_from_is_err_and}
use Rattle.rules.specs.Lists.{then_zeros}
use Rattle.kinds.specs.Kind.{kind_byte}
use Rattle.readers.specs.Readers.{no_entry, no_done, no_refused}
use Rattle.frames.specs.Frames.{entry_values, done_values, refused_values, numbers_read, read_frame}
use Rattle.frames.proofs.Frames.{no_reader, entry_read, done_read, reverse_read, refused_read, unread}
use Rattle.frames.proofs.read_kind.Goals as goal

pub returns-in_err-try_from : goal.returns-in_err-try_from
returns-in_err-try_from c =
    let p = err_from_is_err_and c.from_residual.result c.from_residual.ensures.1 in
    rw (p.1, p.2, c.in_err-try_from.ensures.0) (no_reader _ c.in_err-try_from.ensures.1 _)

pub returns-in_err-read_entry-in-Entry : goal.returns-in_err-read_entry-in-Entry
unfolding numbers_read then_zeros entry_values no_entry
returns-in_err-read_entry-in-Entry c =
    let r = c.from_residual-in_err-read_entry-in-Entry in
    let p = err_from_is_err_and r.result r.ensures.1 in
    let kind = ap kind_byte (sym c.in-Entry.is) ∙ c.in_ok-try_from.ensures in
    rw (p.1, p.2) (entry_read _ kind c.in_err-read_entry-in-Entry.ensures)

pub returns-in_ok-read_entry-in-Entry : goal.returns-in_ok-read_entry-in-Entry
unfolding numbers_read
returns-in_ok-read_entry-in-Entry c =
    let kind = ap kind_byte (sym c.in-Entry.is) ∙ c.in_ok-try_from.ensures in
    rw c.entry_values.ensures (entry_read _ kind c.in_ok-read_entry-in-Entry.ensures)

pub returns-in_err-read_done-in-Done : goal.returns-in_err-read_done-in-Done
unfolding numbers_read then_zeros done_values no_done
returns-in_err-read_done-in-Done c =
    let r = c.from_residual-in_err-read_done-in-Done in
    let p = err_from_is_err_and r.result r.ensures.1 in
    let kind = ap kind_byte (sym c.in-Done.is) ∙ c.in_ok-try_from.ensures in
    rw (p.1, p.2) (done_read _ kind c.in_err-read_done-in-Done.ensures)

pub returns-in_ok-read_done-in-Done : goal.returns-in_ok-read_done-in-Done
unfolding numbers_read
returns-in_ok-read_done-in-Done c =
    let kind = ap kind_byte (sym c.in-Done.is) ∙ c.in_ok-try_from.ensures in
    rw c.done_values.ensures (done_read _ kind c.in_ok-read_done-in-Done.ensures)

pub returns-in_err-read_reverse_entry-in-ReverseEntry : goal.returns-in_err-read_reverse_entry-in-ReverseEntry
unfolding numbers_read then_zeros entry_values no_entry
returns-in_err-read_reverse_entry-in-ReverseEntry c =
    let r = c.from_residual-in_err-read_reverse_entry-in-ReverseEntry in
    let p = err_from_is_err_and r.result r.ensures.1 in
    let kind = ap kind_byte (sym c.in-ReverseEntry.is) ∙ c.in_ok-try_from.ensures in
    rw (p.1, p.2) (reverse_read _ kind c.in_err-read_reverse_entry-in-ReverseEntry.ensures)

pub returns-in_ok-read_reverse_entry-in-ReverseEntry : goal.returns-in_ok-read_reverse_entry-in-ReverseEntry
unfolding numbers_read
returns-in_ok-read_reverse_entry-in-ReverseEntry c =
    let kind = ap kind_byte (sym c.in-ReverseEntry.is) ∙ c.in_ok-try_from.ensures in
    rw c.entry_values-in-ReverseEntry.ensures (reverse_read _ kind c.in_ok-read_reverse_entry-in-ReverseEntry.ensures)

pub returns-in_err-read_refused-in-Refused : goal.returns-in_err-read_refused-in-Refused
unfolding numbers_read then_zeros refused_values no_refused
returns-in_err-read_refused-in-Refused c =
    let r = c.from_residual-in_err-read_refused-in-Refused in
    let p = err_from_is_err_and r.result r.ensures.1 in
    let kind = ap kind_byte (sym c.in-Refused.is) ∙ c.in_ok-try_from.ensures in
    rw (p.1, p.2) (refused_read _ kind c.in_err-read_refused-in-Refused.ensures)

pub returns-in_ok-read_refused-in-Refused : goal.returns-in_ok-read_refused-in-Refused
unfolding numbers_read
returns-in_ok-read_refused-in-Refused c =
    let kind = ap kind_byte (sym c.in-Refused.is) ∙ c.in_ok-try_from.ensures in
    rw c.refused_values.ensures (refused_read _ kind c.in_ok-read_refused-in-Refused.ensures)

pub returns-in_default : goal.returns-in_default
returns-in_default c =
    let d = c.in_default in
    unread _ _ d.not-Entry d.not-Done d.not-ReverseEntry d.not-Refused ∙ ap (λ k. read_frame k c.args.line.now) c.in_ok-try_from.ensures
