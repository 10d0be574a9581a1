-- Each way a job ends is a line of its table: the tests of the lines before it fail. Assumes nothing.
use mathlib.Core.Path.{◌≡◌}
use mathlib.Core.List.{List, []}
use Prim.Native.Nat.{ℕ, ◌≤◌, ◌<◌}
use borrow.Author.Tests.{lt-ltb, le-ltb}
use lib.ListN.{length}
use Rattle.rules.specs.declared.Answer.{Answer}
use Rattle.rules.specs.Lists.{laid, then_zeros, zeros}
use Rattle.rules.specs.Records.{Record}
use Rattle.rules.specs.Rooms.{work_holds, list_holds, record_numbers}
use Rattle.rules.specs.Answers.{left, first_of, done, zeroed, finishing, comparing, stopping}

-- an outcome is its answer and its rooms
pub left_path : {a a' : Answer} {w w' l l' : List ℕ} → a ≡ a' → w ≡ w' → l ≡ l' → left a w l ≡ left a' w' l'
left_path p q r = λ i. left (p i) (q i) (r i)

-- of the rooms only their lengths matter to the end of a job
pub finishing_same : (entries : List (List ℕ)) (matches need links : ℕ) (work work₁ list list₁ : List ℕ) → length work₁ ≡ length work
    → length list₁ ≡ length list
    → finishing entries matches need links work₁ list₁ ≡ finishing entries matches need links work list
unfolding finishing zeroed zeros list_holds
finishing_same entries matches need links work work₁ list list₁ ew el = rw (ew, el)

module _ (entries : List (List ℕ)) (matches need links : ℕ) (work list : List ℕ) where
  pub finishes_8 : list_holds list < length entries → finishing entries matches need links work list ≡ zeroed 8 (length entries) work list
  unfolding finishing first_of
  finishes_8 h = rw (lt-ltb (list_holds list) (length entries) h)

  pub finishes_0 : length entries ≤ list_holds list
      → finishing entries matches need links work list
      ≡ left (done (length entries) matches need links) (zeros work) (then_zeros (laid (λ entry. entry) entries) (length list))
  unfolding finishing first_of
  finishes_0 h = rw (le-ltb (list_holds list) (length entries) h)

  pub compares_7 : work_holds work < need → comparing entries matches need links work list ≡ zeroed 7 need work list
  unfolding comparing first_of
  compares_7 h = rw (lt-ltb (work_holds work) need h)

  pub compares_on : need ≤ work_holds work → comparing entries matches need links work list ≡ finishing entries matches need links work list
  unfolding comparing first_of
  compares_on h = rw (le-ltb (work_holds work) need h)

module _ (records : List Record) (matches need links rows : ℕ) (work : List ℕ) (r : ℕ) where
  pub stops_7 : work_holds work < need → stopping records matches need links rows work r ≡ zeroed 7 need work []
  unfolding stopping first_of
  stops_7 h = rw (lt-ltb (work_holds work) need h)

  pub stops_19 : need ≤ work_holds work → rows < r → stopping records matches need links rows work r ≡ zeroed 19 rows work []
  unfolding stopping first_of
  stops_19 h g = rw (le-ltb (work_holds work) need h, lt-ltb rows r g)

  pub stops_0 : need ≤ work_holds work → r ≤ rows
      → stopping records matches need links rows work r
      ≡ left (done (length records) matches need links) (then_zeros (laid record_numbers records) (length work)) []
  unfolding stopping first_of
  stops_0 h g = rw (le-ltb (work_holds work) need h, le-ltb rows r g)
