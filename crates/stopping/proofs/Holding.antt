-- The run of a row: the first rows of walks are walks and come to the same matches, and a ring that begins with the run leaves it in front. Assumes nothing.
use mathlib.Core.Path.{◌≡◌, refl, sym, ap, subst⁻¹, ◌∙◌}
use mathlib.Core.List.{List, []}
use Prim.Native.Nat.{ℕ, ◌-◌, ◌*◌, ◌≤◌}
use native.Mathlib.Omega.{arith}
use lib.ListN.{length, get_or, take, replicate, get_or-eq_default}
use lib.Seq.{get_or-take, length-take-le}
use Rattle.rules.specs.declared.Settings.{Settings}
use Rattle.rules.specs.declared.Cell.{Cell}
use Rattle.rules.specs.declared.Record.{Record}
use Rattle.rules.specs.Lists.{keep, laid, then_zeros, zeros}
use Rattle.rules.specs.Records.{records_from}
use Rattle.rules.specs.Rooms.{record_numbers, largest_run}
use Rattle.rules.proofs.Tests.{Three, below, equal, above, three}
use Rattle.matches.specs.Walks.{walks_to, walked_to, walked, walked_need, WalkSafe, Described}
use Rattle.matches.proofs.Walked.{safe_described, described_same}
use Rattle.predecessors.specs.declared.ring.Ring.{Ring}
use Rattle.predecessors.specs.Numbers.{slot_of}
use Rattle.sweep.specs.Sweeping.{SweepSafe, run_of, HoldsRun}
use Rattle.strands.specs.Strands.{Walked}
use Rattle.strands.proofs.Needs.{none_needed}
use Rattle.stopping.specs.Stopping.{Holds, RingFrom}
use Rattle.stopping.proofs.Runs.{fewer_rows, same_run}

-- ---- the first rows of walks

module _ {firsts nexts : List ℕ} {row : ℕ} (w : WalkSafe firsts nexts) (h : row ≤ length firsts) where
  front_long : length (take row firsts) ≡ row
  front_long = length-take-le row firsts h

  front_safe : WalkSafe (take row firsts) nexts
  front_safe =
      let l = front_long in
      let f = w.few_rows in
      record { few_rows = omega arith; starts = λ p. starts p (three p row); nexts_safe = w.nexts_safe }
    where
      starts : (p : ℕ) → Three p row → get_or (take row firsts) p 0 ≤ length nexts
      starts p (below q) = let e = get_or-take row firsts p 0 q in let s = w.starts p in omega arith
      starts p (equal q) = let e = get_or-eq_default (take row firsts) 0 {n = p} (let l = front_long in omega arith) in omega arith
      starts p (above q) = let e = get_or-eq_default (take row firsts) 0 {n = p} (let l = front_long in omega arith) in omega arith

  -- the matches of all rows are described by the first ones too
  front_described : Described (walks_to firsts nexts) (length nexts) (take row firsts) nexts
  front_described =
      let d = safe_described w in
      let l = front_long in
      record { rows = λ p q. rw (get_or-take row firsts p 0 (omega arith)) (d.rows p (omega arith)); narrow = d.narrow }

  front_walked : (n : ℕ) → n ≤ row → walked_to (take row firsts) nexts n ≡ walked_to firsts nexts n
  unfolding walked_to
  front_walked n l = sym (described_same front_safe front_described n (let e = front_long in omega arith))

  -- they need no more room
  front_need : (b : ℕ) → walked_need b (take row firsts) nexts ≤ walked_need b firsts nexts
  unfolding walked_need walked walked_to
  front_need b =
      let same : walked_need b (take row firsts) nexts ≡ largest_run b (walked_to firsts nexts row) row =
      ap (λ (n : ℕ). largest_run b (walked_to (take row firsts) nexts n) n) front_long
      ∙ ap (λ (l : List Cell). largest_run b l row) (front_walked row (omega arith)) in
      omega (arith, same, fewer_rows b (walks_to firsts nexts) (length nexts) (length firsts) row h)

  -- and their last row has the same run
  front_run : (c : Settings) → run_of c (walked (take row firsts) nexts) (length (take row firsts)) ≡ run_of c (walked firsts nexts) row
  unfolding run_of walked walked_to
  front_run c =
      ap (λ (n : ℕ). run_of c (walked_to (take row firsts) nexts n) n) front_long
      ∙ ap (λ (l : List Cell). run_of c l row) (front_walked row (omega arith))
      ∙ same_run c.b (walks_to firsts nexts) (length nexts) (length firsts) row h

-- ---- the run of a row

pub hold_safe : {row : ℕ} {firsts nexts work : List ℕ} {c : Settings} {widest before : ℕ} {ring : Ring} → Walked firsts nexts c
    → 8 * widest ≤ length work → row ≤ length firsts → RingFrom widest before ring → SweepSafe (take row firsts) nexts work ring c
hold_safe w h l r =
    let e = r.sized in
    record { fits = r.fits; room_for = omega arith; walks = front_safe w.walks l; wide = w.wide; some_base = w.some_base; few_bases = w.few_bases }

module _ {row : ℕ} {firsts nexts : List ℕ} {widest before : ℕ} {ring : Ring} (w : WalkSafe firsts nexts) (l : row ≤ length firsts)
    (r : RingFrom widest before ring) (b : ℕ) where
  pub hold_enough : walked_need b firsts nexts ≤ widest → walked_need b (take row firsts) nexts ≤ ring.size
  hold_enough h = omega (arith, front_need w l b, r.sized)

  pub hold_front : {last : ℕ} → last ≡ row - b - 1 → before ≡ length (walked_to firsts nexts last)
      → slot_of ring (length (walked_to (take row firsts) nexts (length (take row firsts) - b - 1))) ≡ 0
  hold_front el eb =
      let at : length (take row firsts) - b - 1 ≡ row - b - 1 = ap (λ (n : ℕ). n - b - 1) (front_long w l) in
      ap (λ (n : ℕ). slot_of ring (length (walked_to (take row firsts) nexts n))) at
      ∙ ap (λ (cells : List Cell). slot_of ring (length cells)) (front_walked w l (row - b - 1) (omega arith))
      ∙ ap (λ (n : ℕ). slot_of ring (length (walked_to firsts nexts n))) (sym el) ∙ ap (slot_of ring) (sym eb) ∙ r.first

-- with no slot needed there is no record
pub holds_none : {firsts nexts work work' : List ℕ} {c : Settings} {widest row : ℕ} → widest ≡ 0 → walked_need c.b firsts nexts ≤ widest → work' ≡ zeros work
    → Holds firsts nexts c row work work' 0
unfolding run_of keep laid records_from then_zeros zeros
holds_none {firsts} {nexts} {work} {work'} {c} {widest} {row} z h e =
    let n : length work - 0 ≡ length work = omega arith in
    let none : walked firsts nexts ≡ [] = none_needed c.b firsts nexts (omega arith) in
    record {
      counted = subst⁻¹ (λ (l : List Cell). 0 ≡ length (run_of c l row)) none refl;
      held = subst⁻¹ (λ (l : List Cell). work' ≡ then_zeros (laid record_numbers (run_of c l row)) (length work)) none
          (e ∙ sym (ap (λ (m : ℕ). replicate m 0) n));
    }

pub holds_swept : {firsts nexts work work' : List ℕ} {c : Settings} {row n : ℕ} → WalkSafe firsts nexts → row ≤ length firsts
    → HoldsRun (take row firsts) nexts c work work' n → Holds firsts nexts c row work work' n
holds_swept {work = work} {c = c} w h run =
    let same = front_run w h c in
    record {
      counted = run.counted ∙ ap length same;
      held = run.held ∙ ap (λ (l : List Record). then_zeros (laid record_numbers l) (length work)) same;
    }
