-- Each way a stopped sweep ends is a line of its table: the tallies are counted from the walks, and the room is what the sweep left. Assumes nothing.
use mathlib.Core.Path.{◌≡◌, refl, sym, ap, ◌∙◌}
use mathlib.Core.List.{List, []}
use Prim.Native.Nat.{ℕ, ◌^◌, ◌≤◌, ◌<◌}
use native.Mathlib.Omega.{arith}
use lib.ListN.{length}
use Rattle.rules.specs.declared.Settings.{Settings}
use Rattle.rules.specs.declared.Answer.{Answer}
use Rattle.rules.specs.declared.Cell.{Cell}
use Rattle.rules.specs.Lists.{zeros}
use Rattle.rules.specs.Rooms.{work_holds, largest_run, pairs}
use Rattle.rules.specs.Answers.{left, refusal, done, zeroed}
use Rattle.rules.proofs.Outcomes.{left_path, stops_7, stops_19, stops_0}
use Rattle.matches.specs.Walks.{walked, walked_need, WalkSafe}
use Rattle.tally.specs.declared.Counts.{Counts}
use Rattle.tally.specs.Tallies.{counts_of}
use Rattle.strands.proofs.Tallies.{run_short}
use Rattle.stopping.specs.Stopping.{stopped_of, Holds}

module _ (firsts nexts : List ℕ) (c : Settings) {b : ℕ} (eb : b ≡ c.b) {counts : Counts} (n : counts ≡ counts_of b (walked firsts nexts) (length firsts)) where
  abbrev cells : List Cell
  cells = walked firsts nexts

  -- W, as it was counted with b
  widest_is : counts.widest ≡ largest_run c.b cells (length firsts)
  unfolding counts_of
  widest_is = ap (λ (k : Counts). k.widest) n ∙ ap (λ (q : ℕ). largest_run q cells (length firsts)) eb

  matches_are : counts.matches ≡ length cells
  unfolding counts_of
  matches_are = ap (λ (k : Counts). k.matches) n

  -- W slots are few, and enough
  pub fits_one : WalkSafe firsts nexts → (counts.widest < 2 ^ 32) × (walked_need c.b firsts nexts ≤ counts.widest)
  unfolding walked_need
  fits_one s = let e = widest_is in let f = run_short c.b s in (omega arith, omega arith)

  module _ (work : List ℕ) (row : ℕ) {work' : List ℕ} {r : Answer} where
    pub stopped_7 : work_holds work < counts.widest → r ≡ refusal 7 0 counts.widest → work' ≡ zeros work
        → left r work' [] ≡ stopped_of c cells (length firsts) work row
    unfolding zeroed zeros stopped_of
    stopped_7 h er ew =
        let e = widest_is in
        left_path (er ∙ ap (refusal 7 0) e) ew refl ∙ sym (stops_7 _ _ _ _ _ work row (omega arith))

    pub stopped_19 : counts.widest ≤ work_holds work → length firsts < row → r ≡ refusal 19 0 (length firsts) → work' ≡ zeros work
        → left r work' [] ≡ stopped_of c cells (length firsts) work row
    unfolding zeroed zeros stopped_of
    stopped_19 h g er ew =
        let e = widest_is in
        left_path er ew refl ∙ sym (stops_19 _ _ _ _ _ work row (omega arith) g)

    pub stopped_0 : {held links : ℕ} → counts.widest ≤ work_holds work → row ≤ length firsts
        → Holds firsts nexts c row work work' held → links ≡ pairs b cells → r ≡ done held counts.matches counts.widest links
        → left r work' [] ≡ stopped_of c cells (length firsts) work row
    unfolding done stopped_of
    stopped_0 h g v l er =
        let m = matches_are in
        let e = widest_is in
        let k = l ∙ ap (λ (q : ℕ). pairs q cells) eb in
        left_path (er ∙ λ i. done (v.counted i) (m i) (e i) (k i)) v.held refl ∙ sym (stops_0 _ _ _ _ _ work row (omega arith) g)
