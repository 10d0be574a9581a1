-- Document 01, "Numbers the registry may receive", with CR 1 and CR 5: the whole outcome of the compare job and of the stopped sweep, every number of the
-- rooms with it, and the reply over the C boundary. Letters are checked as they stand and swept as they are read. Assumes nothing.
use Rattle.std.specs.Prelude.{Bool, cond, ◌||◌, List, [], ◌∷◌, ◌++◌, ℕ, ◌+◌, ltb, eqb, length}
use Rattle.rules.specs.declared.Settings.{Settings}
use Rattle.rules.specs.declared.Answer.{Answer}
use Rattle.rules.specs.Lists.{laid, then_zeros, zeros}
use Rattle.rules.specs.Letters.{bad_place, as_read}
use Rattle.rules.specs.Places.{places}
use Rattle.rules.specs.Records.{Record}
use Rattle.rules.specs.Rooms.{work_holds, list_holds, record_numbers, held, match_total, work_need, link_total}
use Rattle.rules.specs.Strands.{on_strand, entries, match_sum, larger_need, link_sum}

-- "The answer is a number, a sequence (0, 1 or 2), a detail, and four tallies", and both rooms afterwards
pub record Outcome : Type 0 where
  pub answer : Answer
  pub work : List ℕ
  pub list : List ℕ

-- the outcome that a call leaves
abbrev pub left : Answer → List ℕ → List ℕ → Outcome
left answer work list = record { answer = answer; work = work; list = list }

-- "On refusal all four are 0."
unfoldable pub refusal : ℕ → ℕ → ℕ → Answer
refusal number sequence detail =
    record { number = number; sequence = sequence; detail = detail; listed = 0; matches = 0; widest = 0; links = 0 }

-- done, with the entries listed or the records held, M, W and the link total
unfoldable pub done : ℕ → ℕ → ℕ → ℕ → Answer
done listed matches widest links =
    record { number = 0; sequence = 0; detail = 0; listed = listed; matches = matches; widest = widest; links = links }

-- a line of a table: when it applies, and what then
pub record Line (A : Type 0) : Type 0 where
  pub when : Bool
  pub then : A

abbrev pub on : {A : Type 0} → Bool → A → Line A
on when then = record { when = when; then = then }

-- "the first that applies is given, even if a later one also does. None is given otherwise."
unfoldable pub first_of : {A : Type 0} → List (Line A) → A → A
first_of [] a = a
first_of (l ∷ ls) a = let r = first_of ls a in cond l.when l.then r

unfoldable pub outside : ℕ → ℕ → ℕ → Bool
outside low high n = ltb n low || ltb high n

-- ---- the checks that need no room, in pieces

-- "1, 2, 3, 4 | k, b, a, m outside the table", then 9: "strand not 0 or 1, checked after 4", and "10, mask setting not 0 or 1, after 9 wherever 9 is
-- checked"
unfoldable pub settings_checks : Settings → List (Line Answer)
unfolding refusal outside
settings_checks c =
    on (outside 1 31 c.k) (refusal 1 0 0)
    ∷ on (outside 1 1024 c.b) (refusal 2 0 0)
    ∷ on (outside 1 1024 c.a) (refusal 3 0 0)
    ∷ on (outside 0 16384 c.m) (refusal 4 0 0)
    ∷ on (outside 0 1 c.strand) (refusal 9 0 0)
    ∷ on (outside 0 1 c.mask) (refusal 10 0 0)
    ∷ []

-- 5: "a sequence too long", by its letters
unfoldable pub length_check : ℕ → ℕ → Line Answer
unfolding refusal
length_check sequence letters = on (ltb 16384 letters) (refusal 5 sequence 0)

-- "the first looked at first"
unfoldable pub length_checks : ℕ → ℕ → List (Line Answer)
unfolding length_check
length_checks first second = length_check 1 first ∷ length_check 2 second ∷ []

-- 6: "a letter not among the fifteen", with "its first such place"
unfoldable pub letter_check : ℕ → List ℕ → Line Answer
unfolding refusal bad_place
letter_check sequence s = on (ltb 0 (bad_place s)) (refusal 6 sequence (bad_place s))

-- "all of the first sequence before the second"
unfoldable pub letter_checks : List ℕ → List ℕ → List (Line Answer)
unfolding letter_check
letter_checks first second = letter_check 1 first ∷ letter_check 2 second ∷ []

-- 1 to 6, in order, with 9 and 10 after 4
unfoldable pub checks : Settings → List ℕ → List ℕ → List (Line Answer)
unfolding settings_checks length_checks letter_checks
checks c first second = settings_checks c ++ length_checks (length first) (length second) ++ letter_checks first second

-- the refusal that some checks give, or number 0
unfoldable pub given : List (Line Answer) → Answer
unfolding first_of refusal
given lines = first_of lines (refusal 0 0 0)

-- that of all these, which need no room and leave the rooms untouched
unfoldable pub checked : Settings → List ℕ → List ℕ → Answer
unfolding given checks
checked c first second = given (checks c first second)

-- a job whose settings, lengths and letters are refused ends there, and the others go on
unfoldable pub after_checks : Settings → List ℕ → List ℕ → List ℕ → List ℕ → Outcome → Outcome
unfolding checked
after_checks c first second work list rest =
    cond (eqb (checked c first second).number 0) rest (left (checked c first second) work list)

-- 7, 8 and 19 leave zeros
unfoldable pub zeroed : ℕ → ℕ → List ℕ → List ℕ → Outcome
unfolding refusal zeros
zeroed number detail work list = left (refusal number 0 detail) (zeros work) (zeros list)

-- a compare job that is swept, with these entries and tallies: 8. Done: "list: entries, then zeros; work: zeros"
unfoldable pub finishing : List (List ℕ) → ℕ → ℕ → ℕ → List ℕ → List ℕ → Outcome
unfolding first_of zeroed list_holds done zeros then_zeros laid
finishing entries matches need links work list =
    first_of (on (ltb (list_holds list) (length entries)) (zeroed 8 (length entries) work list) ∷ [])
    (left (done (length entries) matches need links) (zeros work) (then_zeros (laid (λ entry. entry) entries) (length list)))

-- and one that is to be: 7 before it
unfoldable pub comparing : List (List ℕ) → ℕ → ℕ → ℕ → List ℕ → List ℕ → Outcome
unfolding first_of zeroed work_holds finishing
comparing entries matches need links work list =
    first_of (on (ltb (work_holds work) need) (zeroed 7 need work list) ∷ []) (finishing entries matches need links work list)

-- of two sequences, over the strands that are named: "refused for work room exactly below the larger need"
unfoldable pub compared_sweeps : Settings → List ℕ → List ℕ → List ℕ → List ℕ → Outcome
unfolding comparing entries match_sum larger_need link_sum
compared_sweeps c first second work list =
    comparing (entries c first second) (match_sum c first second) (larger_need c first second) (link_sum c first second) work list

-- "Checks go from 1 to 8". CR 5: "Demand 2 reads with the capitals and this break", so that what is swept is both sequences as they are read
unfoldable pub compared : Settings → List ℕ → List ℕ → List ℕ → List ℕ → Outcome
unfolding after_checks compared_sweeps as_read
compared c first second work list =
    after_checks c first second work list (compared_sweeps c (as_read c.mask first) (as_read c.mask second) work list)

-- a sweep of so many rows, stopped after row r with these records and tallies: 7, then 19, and no list room. Done: the records, "by row then column from
-- the front, and zeros after them"
unfoldable pub stopping : List Record → ℕ → ℕ → ℕ → ℕ → List ℕ → ℕ → Outcome
unfolding first_of zeroed work_holds done then_zeros laid record_numbers
stopping records matches need links rows work r =
    first_of
    (on (ltb (work_holds work) need) (zeroed 7 need work []) ∷ on (ltb rows r) (zeroed 19 rows work []) ∷ [])
    (left (done (length records) matches need links) (then_zeros (laid record_numbers records) (length work)) [])

-- of two sequences
unfoldable pub stopped_sweep : Settings → List ℕ → List ℕ → List ℕ → ℕ → Outcome
unfolding stopping held match_total work_need link_total places
stopped_sweep c first second work r =
    stopping (held c first second r) (match_total c first second) (work_need c first second) (link_total c first second) (places c.k first) work r

-- the stopped sweep: "1 to 7, then 19". It names "one strand, 0 forward or 1 reverse, with its own need and tallies; only entries are turned back"
unfoldable pub stopped : Settings → List ℕ → List ℕ → List ℕ → ℕ → Outcome
unfolding after_checks stopped_sweep on_strand as_read
stopped c first second work r =
    after_checks c first second work [] (stopped_sweep c (as_read c.mask first) (on_strand c.strand (as_read c.mask second)) work r)

-- over the C boundary: "The reply is W, or 4,294,967,296 plus the refusal number 1 to 6.", or 9 or 10; the larger W "is reported, also over the C
-- boundary"
unfoldable pub replied : Settings → List ℕ → List ℕ → ℕ
unfolding checked larger_need as_read
replied c first second =
    cond (eqb (checked c first second).number 0) (larger_need c (as_read c.mask first) (as_read c.mask second))
    (4294967296 + (checked c first second).number)
