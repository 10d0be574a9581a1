-- Each way a job ends is a line of its table: the tallies are counted from the walks, and the rooms are what the sweeps left, with zeros after it.
-- Assumes nothing.
use mathlib.Core.Path.{◌≡◌, refl, sym, ap, ◌∙◌}
use mathlib.Core.List.{List, [], ◌∷◌, ◌++◌}
use Prim.Native.Nat.{ℕ, zero, suc, ◌+◌, ◌-◌, ◌*◌, ◌^◌, ◌≤◌, ◌<◌}
use native.Mathlib.Omega.{arith}
use native.Mathlib.Nat.{zero-add, suc-add}
use lib.ListN.{length, take, drop, replicate}
use lib.Seq.{length-take-le}
use Rattle.rules.specs.declared.Settings.{Settings}
use Rattle.rules.specs.declared.Answer.{Answer}
use Rattle.rules.specs.declared.Cell.{Cell}
use Rattle.rules.specs.Lists.{laid, then_zeros, zeros}
use Rattle.rules.specs.Rooms.{work_holds, list_holds, pairs}
use Rattle.rules.specs.Answers.{left, refusal, done, zeroed, finishing}
use Rattle.rules.proofs.Tests.{Three, below, equal, above, three}
use Rattle.rules.proofs.Outcomes.{left_path, finishing_same, finishes_8, finishes_0, compares_7, compares_on}
use Rattle.matches.specs.Walks.{walked, walked_need, WalkSafe}
use Rattle.tally.specs.declared.Counts.{Counts}
use Rattle.strands.specs.Strands.{entries_of, larger_of, both_counts, Entered}
use Rattle.strands.proofs.Tallies.{both_few}
use Rattle.jobs.specs.Jobs.{entries_in, compared_of}

-- ---- the entries in a list room

entries_count : (n : ℕ) (list : List ℕ) → length (entries_in n list) ≡ n
unfolding entries_in
entries_count zero list = refl
entries_count (suc n) list = ap suc (entries_count n (drop 6 list))

take_more : (n m : ℕ) (l : List ℕ) → take n l ++ take m (drop n l) ≡ take (n + m) l
take_more zero m l = rw (zero-add m)
take_more (suc n) zero [] = rw (suc-add n 0)
take_more (suc n) (suc m) [] = rw (suc-add n (suc m))
take_more (suc n) m (x ∷ xs) = rw (suc-add n m) (ap (λ (r : List ℕ). x ∷ r) (take_more n m xs))

entries_laid : (n : ℕ) (list : List ℕ) → laid (λ entry. entry) (entries_in n list) ≡ take (6 * n) list
unfolding entries_in laid
entries_laid zero list = refl
entries_laid (suc n) list =
    let more : 6 * suc n ≡ 6 + 6 * n = omega arith in
    ap (λ (rest : List ℕ). take 6 list ++ rest) (entries_laid n (drop 6 list)) ∙ rw more (take_more 6 (6 * n) list)

room_for : (list : List ℕ) (n : ℕ) → n ≤ list_holds list → 6 * n ≤ length list
unfolding list_holds
room_for list n h = omega arith

-- entries that stand in the list room are those in it
module _ {all : List (List ℕ)} {list : List ℕ} {n : ℕ} (v : Entered all list n) (matches need links : ℕ) (work : List ℕ) where
  pub entered_end : finishing (entries_in n list) matches need links work list ≡ finishing all matches need links work list
  unfolding zeroed
  entered_end = go (three (list_holds list) n)
    where
      same : length (entries_in n list) ≡ length all
      same = entries_count n list ∙ v.counted

      fits : n ≤ list_holds list → finishing (entries_in n list) matches need links work list ≡ finishing all matches need links work list
      fits h =
          let laid_same = entries_laid n list ∙ v.entries (room_for list n h) in
          finishes_0 (entries_in n list) matches need links work list (omega (arith, entries_count n list))
          ∙ (λ i. left (done (same i) matches need links) (zeros work) (then_zeros (laid_same i) (length list)))
          ∙ sym (finishes_0 all matches need links work list (omega (arith, v.counted)))

      go : Three (list_holds list) n → finishing (entries_in n list) matches need links work list ≡ finishing all matches need links work list
      go (below h) =
          finishes_8 (entries_in n list) matches need links work list (omega (arith, entries_count n list))
          ∙ (λ i. zeroed 8 (same i) work list)
          ∙ sym (finishes_8 all matches need links work list (omega (arith, v.counted)))
      go (equal e) = fits (omega arith)
      go (above h) = fits (omega arith)

-- ---- the end of a job

module _ (listed : ℕ) (counts : Counts) (work list : List ℕ) (pairs-are : ℕ) {work' list' : List ℕ} {r : Answer} where
  pub finish_8 : list_holds list < listed → r ≡ refusal 8 0 listed → work' ≡ zeros work → list' ≡ zeros list
      → left r work' list' ≡ finishing (entries_in listed list) counts.matches counts.widest pairs-are work list
  unfolding zeroed
  finish_8 h er ew el =
      let n = entries_count listed list in
      left_path (er ∙ ap (refusal 8 0) (sym n)) ew el ∙ sym (finishes_8 _ _ _ _ work list (omega arith))

  pub finish_0 : {links : ℕ} → listed ≤ list_holds list → links ≡ pairs-are
      → r ≡ done listed counts.matches counts.widest links → work' ≡ zeros work
      → list' ≡ take (6 * listed) list ++ replicate (length list - 6 * listed) 0
      → left r work' list' ≡ finishing (entries_in listed list) counts.matches counts.widest pairs-are work list
  unfolding then_zeros
  finish_0 {links} h l er ew el =
      let n = sym (entries_count listed list) in
      let front = sym (entries_laid listed list) in
      let size = length-take-le (6 * listed) list (room_for list listed h) in
      let rest : length list - 6 * listed ≡ length list - length (laid (λ entry. entry) (entries_in listed list)) =
      omega (arith, ap length front) in
      left_path (er ∙ λ i. done (n i) counts.matches counts.widest (l i)) ew (el ∙ λ i. front i ++ replicate (rest i) 0)
      ∙ sym (finishes_0 _ _ _ _ work list (omega arith))

-- ---- the compare job

-- the tallies of both strands, counted with the gap bound of the settings
module _ (c : Settings) (forward reverse : List Cell) (rows reverse-rows : ℕ) {b : ℕ} (eb : b ≡ c.b) {counts : Counts}
    (n : counts ≡ both_counts b forward rows reverse reverse-rows) where
  matches_are : counts.matches ≡ length forward + length reverse
  unfolding both_counts
  matches_are = ap (λ (k : Counts). k.matches) n

  -- the larger need
  pub needed : counts.widest ≡ larger_of c.b forward rows reverse reverse-rows
  unfolding both_counts
  needed = ap (λ (k : Counts). k.widest) n ∙ ap (λ (q : ℕ). larger_of q forward rows reverse reverse-rows) eb

  pub compare_7 : (letters : ℕ) (work list : List ℕ) {work' list' : List ℕ} {r : Answer} → work_holds work < counts.widest
      → r ≡ refusal 7 0 counts.widest → work' ≡ zeros work → list' ≡ zeros list
      → left r work' list' ≡ compared_of c letters forward rows reverse reverse-rows work list
  unfolding zeroed compared_of
  compare_7 letters work list h er ew el =
      let e = needed in
      left_path (er ∙ ap (refusal 7 0) e) ew el ∙ sym (compares_7 _ _ _ _ work list (omega arith))

  -- with room enough, the rooms as the sweeps left them are those in which the job ends
  pub compare_on : (letters : ℕ) (work work₁ list : List ℕ) {list₁ work' list' : List ℕ} {r : Answer} {listed : ℕ}
      → counts.widest ≤ work_holds work → length work₁ ≡ length work → length list₁ ≡ length list
      → Entered (entries_of c letters forward reverse) list₁ listed
      → left r work' list'
      ≡ finishing (entries_in listed list₁) counts.matches counts.widest (pairs b forward + pairs b reverse) work₁ list₁
      → left r work' list' ≡ compared_of c letters forward rows reverse reverse-rows work list
  unfolding compared_of
  compare_on letters work work₁ list {list₁} h lw ll a z =
      let all = entries_of c letters forward reverse in
      let m = matches_are in
      let w = needed in
      let k : pairs b forward + pairs b reverse ≡ pairs c.b forward + pairs c.b reverse = ap (λ (q : ℕ). pairs q forward + pairs q reverse) eb in
      z
      ∙ entered_end a _ _ _ work₁
      ∙ (λ i. finishing all (m i) (w i) (k i) work₁ list₁)
      ∙ finishing_same all _ _ _ work work₁ list list₁ lw ll
      ∙ sym (compares_on all _ _ _ work list (omega arith))

-- W slots are fewer than 2^32, and enough for each strand
pub fits_both : {firsts nexts reverse-firsts reverse-nexts : List ℕ} → WalkSafe firsts nexts → WalkSafe reverse-firsts reverse-nexts
    → (c : Settings) {b : ℕ} → b ≡ c.b → {counts : Counts}
    → counts ≡ both_counts b (walked firsts nexts) (length firsts) (walked reverse-firsts reverse-nexts) (length reverse-firsts)
    → (counts.widest < 2 ^ 32) × (walked_need c.b firsts nexts ≤ counts.widest) × (walked_need c.b reverse-firsts reverse-nexts ≤ counts.widest)
unfolding larger_of walked_need
fits_both s t c eb n =
    let w = needed c _ _ _ _ eb n in
    let f = (both_few s t c.b).1 in
    (omega arith, omega arith, omega arith)
