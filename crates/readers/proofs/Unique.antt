-- The numbers that a reader says tell what it answers. Assumes nothing.
use Rattle.std.proofs.Common.{◌≡◌, Result, Ok, Err, ap, sym, ◌∙◌, arith}
use Rattle.lines.specs.declared.error.FrameError.{FrameError}
use Rattle.lines.proofs.Unique.{error_some, one_error}
use Rattle.kinds.specs.declared.Entry.{Entry}
use Rattle.kinds.specs.declared.Done.{Done}
use Rattle.kinds.specs.declared.Refused.{Refused}
use Rattle.readers.specs.Readers.{EntryRead, DoneRead, RefusedRead, entry_numbered, done_numbered, refused_numbered}

one_entry : (r s : Result Entry FrameError) → entry_numbered r ≡ entry_numbered s → r ≡ s
one_entry (Ok x) (Ok y) h = ap (λ (q : EntryRead). Ok q.entry) h
one_entry (Ok x) (Err e) h = absurd (omega (arith, error_some e, ap (λ (q : EntryRead). q.number) h))
one_entry (Err d) (Ok y) h = absurd (omega (arith, error_some d, ap (λ (q : EntryRead). q.number) h))
one_entry (Err d) (Err e) h = ap Err (one_error d e (ap (λ (q : EntryRead). q.number) h))

-- any two results of `readers::read_entry`, and of `readers::read_reverse_entry`, are equal
pub one_entry_read : (q : EntryRead) (r s : Result Entry FrameError) → entry_numbered r ≡ q → entry_numbered s ≡ q → r ≡ s
one_entry_read q r s h g = one_entry r s (h ∙ sym g)

one_done : (r s : Result Done FrameError) → done_numbered r ≡ done_numbered s → r ≡ s
one_done (Ok x) (Ok y) h = ap (λ (q : DoneRead). Ok q.done) h
one_done (Ok x) (Err e) h = absurd (omega (arith, error_some e, ap (λ (q : DoneRead). q.number) h))
one_done (Err d) (Ok y) h = absurd (omega (arith, error_some d, ap (λ (q : DoneRead). q.number) h))
one_done (Err d) (Err e) h = ap Err (one_error d e (ap (λ (q : DoneRead). q.number) h))

-- any two results of `readers::read_done` are equal
pub one_done_read : (q : DoneRead) (r s : Result Done FrameError) → done_numbered r ≡ q → done_numbered s ≡ q → r ≡ s
one_done_read q r s h g = one_done r s (h ∙ sym g)

one_refused : (r s : Result Refused FrameError) → refused_numbered r ≡ refused_numbered s → r ≡ s
one_refused (Ok x) (Ok y) h = ap (λ (q : RefusedRead). Ok q.refused) h
one_refused (Ok x) (Err e) h = absurd (omega (arith, error_some e, ap (λ (q : RefusedRead). q.number) h))
one_refused (Err d) (Ok y) h = absurd (omega (arith, error_some d, ap (λ (q : RefusedRead). q.number) h))
one_refused (Err d) (Err e) h = ap Err (one_error d e (ap (λ (q : RefusedRead). q.number) h))

-- any two results of `readers::read_refused` are equal
pub one_refused_read : (q : RefusedRead) (r s : Result Refused FrameError) → refused_numbered r ≡ q → refused_numbered s ≡ q → r ≡ s
one_refused_read q r s h g = one_refused r s (h ∙ sym g)
