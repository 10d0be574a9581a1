-- What stands at the end of a sweep: every record released and the listing whole, or the last row's run from the front of the room. Assumes nothing.
use mathlib.Core.Path.{◌≡◌, refl, sym, ap, subst, ◌∙◌}
use mathlib.Core.Bool.{Bool}
use mathlib.Core.List.{List, [], ◌++◌, Memᴰ}
use Prim.Native.Nat.{ℕ, ◌+◌, ◌-◌, ◌*◌, ◌/◌, ◌%◌, ◌≤◌, ◌<◌}
use native.Mathlib.Omega.{arith}
use native.Mathlib.Nat.{zero-add, mod-eq_of_lt, mod-add-mod}
use lib.Dec.{T}
use lib.ListN.{length, get_or, take, drop, replicate, length-map, length-append, length-drop, length-replicate, get_or-append}
use lib.Seq.{ext_get_or, get_or-take, get_or-drop, take_all, length-take-le, get_or-append-add}
use Rattle.rules.specs.declared.Settings.{Settings}
use Rattle.rules.specs.declared.Cell.{Cell}
use Rattle.rules.specs.declared.Record.{Record}
use Rattle.rules.specs.Lists.{keep, laid, then_zeros}
use Rattle.rules.specs.Matches.{cell, matches_to}
use Rattle.rules.specs.Records.{records_from}
use Rattle.rules.specs.Rooms.{record_numbers, in_run}
use Rattle.rules.proofs.Tests.{tests, Three, below, equal, above, three}
use Rattle.rules.proofs.ListLaws.{zeros_at, mem_at, keep_rest, laid_length, laid_at}
use Rattle.rules.proofs.MatchList.{matches_in}
use Rattle.rules.proofs.Sweeps.{swept_to, swept_all, matches_split}
use Rattle.matches.specs.Walks.{walks_to, walked_to, walked, walked_need, WalkSafe}
use Rattle.matches.proofs.Walked.{safe_described}
use Rattle.predecessors.specs.declared.ring.Ring.{Ring}
use Rattle.predecessors.specs.Numbers.{RingFits, slot_of, nothing, nth}
use Rattle.predecessors.proofs.Steps.{mem_nth, nth_mem}
use Rattle.predecessors.proofs.Swept.{nth_cell, swept_place}
use Rattle.rows.specs.Machine.{Machine}
use Rattle.listing.specs.declared.Released.{Released}
use Rattle.listing.specs.Leaving.{ListedTo, ReleaseSafe, ReleaseDone}
use Rattle.sweep.specs.declared.Swept.{Swept}
use Rattle.sweep.specs.Latest.{NoneLatest}
use Rattle.sweep.specs.Sweeping.{SweepSafe, Describes, SweepDone, ListsAll, run_of, HoldsRun}
use Rattle.sweep.proofs.Parts.{old_row}
use Rattle.sweep.proofs.Sweeping.{release_asks, cells_of}

-- no column has a record at first
pub none_latest : NoneLatest (replicate 16385 0)
none_latest = record { wide = length-replicate {A = ℕ} 16385 0; empty = zeros_at 16385 }

-- the matches that the walks come to are described, and a ring of W slots has room for them
described_room : {firsts nexts : List ℕ} {b : ℕ} {ring : Ring} → WalkSafe firsts nexts → walked_need b firsts nexts ≤ ring.size
    → Describes (walks_to firsts nexts) (length nexts) firsts nexts b ring
unfolding walked_need walked walked_to
described_room w h = record { described = safe_described w; enough = h }

-- ---- the whole listing

module _ {firsts nexts room₀ : List ℕ} {ring : Ring} {c : Settings} (s : SweepSafe firsts nexts room₀ ring c) {room latest list : List ℕ} {w : Swept}
    (d : SweepDone firsts nexts ring c room latest list w) where
  -- the last release is safe
  pub last_safe : length room ≡ length room₀ → ReleaseSafe room ring w.tail w.head c w.listed
  last_safe e =
      let f = d.few in
      let t = s.walks.few_rows in
      let rf = s.room_for in
      record { fits = s.fits; room_for = omega arith; few = omega arith; order = d.order; entries = d.entries; some_base = s.some_base }

  -- and once every row below (rows + b + 1) - b is released, none is left
  pub lists_all : walked_need c.b firsts nexts ≤ ring.size → {last : ℕ} → last ≡ length firsts + c.b + 1 → {list' : List ℕ} {r : Released}
      → ReleaseDone c last room latest ring w.tail w.head list w.listed list' r
      → ListsAll firsts nexts c list' r.listed
  unfolding walked walked_to
  lists_all enough {last} el {list'} {r} e =
      let hit = walks_to firsts nexts in
      let columns = length nexts in
      let a = described_room s.walks enough in
      let all = swept_to c.b hit columns (length firsts) 0 in
      let cells = matches_to hit columns (length firsts) in
      let asks = release_asks c hit columns (length firsts) ring a.described.narrow s.walks.few_rows s.few_bases
      (length firsts) last room latest w.tail w.head
      (d.machine hit columns a) (d.counted hit columns a) (omega arith) (omega arith) (λ y p q. p) in
      let m = e.released (length firsts) all cells asks in
      let none : ¬ (r.tail < length all) = λ l.
      (let k = m.kept r.tail (omega arith) l in
      let o = old_row c.b hit columns (length firsts) r.tail l in
      omega arith) in
      let whole : take r.tail all ≡ all = take_all r.tail all (omega arith) in
      record {
        few = (let g = e.few in let t = e.to in let f = d.few in omega arith);
        entered = subst (λ (l : List Record). ListedTo c cells l list' r.listed) (whole ∙ swept_all c.b hit columns (length firsts))
            (e.entered (length firsts) all cells asks (d.entered hit columns a));
      }

-- ---- the last row's run

record_size : (x : Record) → length (record_numbers x) ≡ 8
unfolding record_numbers
record_size x = refl

module _ (c : Settings) (hit : Cell → Bool) (columns rows : ℕ) (ring : Ring) (narrow : columns ≤ 16384) (tall : rows ≤ 16384) (short : c.k ≤ 31)
    (room latest : List ℕ) (tail : ℕ) (m : Machine c.b rows (swept_to c.b hit columns rows 0) room latest ring tail) where
  abbrev all : List Record
  all = swept_to c.b hit columns rows 0

  abbrev old : ℕ
  old = rows - c.b - 1

  cell_at : (g : ℕ) → get_or (matches_to hit columns rows) g (cell 0 0) ≡ (nth all g).cell
  cell_at g = ap (λ (l : List Cell). get_or l g (cell 0 0)) (sym (cells_of c hit columns rows ring narrow tall short rows)) ∙ nth_cell all g

  count_all : length (matches_to hit columns rows) ≡ length all
  count_all = ap length (sym (cells_of c hit columns rows ring narrow tall short rows)) ∙ length-map all (λ (x : Record). x.cell)

  -- as many are released as there are matches in the rows before the run
  tail_is : tail ≡ length (matches_to hit columns old)
  tail_is = go (matches_split c.b hit columns old rows (omega arith))
    where
      go : (later : List Cell) × (matches_to hit columns rows ≡ matches_to hit columns old ++ later) × ((y : Cell) → Memᴰ y later → old < y.row)
          → tail ≡ length (matches_to hit columns old)
      go sp = by (three tail (length (matches_to hit columns old)))
        where
          front : List Cell
          front = matches_to hit columns old

          later : List Cell
          later = sp.0

          split : (g : ℕ) → get_or (front ++ later) g (cell 0 0) ≡ (nth all g).cell
          split g = ap (λ (l : List Cell). get_or l g (cell 0 0)) (sym sp.1) ∙ cell_at g

          lengths : length (front ++ later) ≡ length all
          lengths = ap length (sym sp.1) ∙ count_all

          in_front : (g : ℕ) → g < length front → (1 ≤ (nth all g).cell.row) × ((nth all g).cell.row ≤ old)
          in_front g l =
              let e = ap (λ (y : Cell). y.row) (sym (split g) ∙ get_or-append front later (cell 0 0) g l) in
              let i = matches_in hit columns old (get_or front g (cell 0 0)) (mem_at front g (cell 0 0) l) in
              (omega (arith, i.row_from), omega (arith, i.row_until))

          in_later : (g : ℕ) → length front ≤ g → g < length all → old < (nth all g).cell.row
          in_later g h l =
              let k : length front + (g - length front) ≡ g = omega arith in
              let z = length-append front later in
              let e = ap (λ (y : Cell). y.row)
              (sym (split g) ∙ ap (λ (q : ℕ). get_or (front ++ later) q (cell 0 0)) (sym k) ∙ get_or-append-add front later (g - length front) (cell 0 0)) in
              let o = sp.2 (get_or later (g - length front) (cell 0 0)) (mem_at later (g - length front) (cell 0 0) (omega (arith, lengths))) in
              omega arith

          by : Three tail (length front) → tail ≡ length front
          by (equal e) = e
          by (below h) =
              let z = length-append front later in
              let l : tail < length all = omega (arith, lengths) in
              let f = in_front tail h in
              let k = m.kept tail (omega arith) l in
              absurd (omega (arith, f.0, f.1))
          by (above h) =
              let o = m.order in
              let f = in_later (length front) (omega arith) (omega arith) in
              let k = m.gone (length front) h (omega arith) in
              absurd (omega arith)

  -- the run is what is held
  pub run_is : keep (λ x. in_run c.b rows x.cell) all ≡ drop tail all
  unfolding in_run
  run_is = keep_rest (λ (x : Record). in_run c.b rows x.cell) all tail (λ x p t. gone_not x p t) (λ x p. kept_in x p)
    where
      o : tail ≤ length all
      o = m.order

      gone_not : (x : Record) → Memᴰ x (take tail all) → ¬ T (in_run c.b rows x.cell)
      gone_not x p t =
          let (g, l, e) = nth_mem x (take tail all) p in
          let n : length (take tail all) ≡ tail = length-take-le tail all o in
          let f : x ≡ nth all g = e ∙ get_or-take tail all g nothing (omega arith) in
          let r = ap (λ (y : Record). y.cell.row) f in
          let k = m.gone g (omega arith) (omega arith) in
          let h = simp (in_run, tests) at t in
          omega arith

      kept_in : (x : Record) → Memᴰ x (drop tail all) → T (in_run c.b rows x.cell)
      kept_in x p =
          let (g, l, e) = nth_mem x (drop tail all) p in
          let n = length-drop tail all in
          let f : x ≡ nth all (tail + g) = e ∙ get_or-drop tail all g nothing in
          let r = ap (λ (y : Record). y.cell.row) f in
          let k = m.kept (tail + g) (omega arith) (omega arith) in
          let q = old_row c.b hit columns rows (tail + g) (omega arith) in
          let z = (swept_place c.b hit columns rows 0 (nth all (tail + g)) (mem_nth all (tail + g) (omega arith))).row_from in
          simp (in_run, tests) (omega arith, omega arith)

  -- where the run begins in slot 0 it lies from there on
  slot_is : RingFits ring → slot_of ring tail ≡ 0 → (q : ℕ) → q < ring.size → slot_of ring (tail + q) ≡ q
  unfolding slot_of
  slot_is f e q h =
      let k : tail + q + ring.origin ≡ tail + ring.origin + q = omega arith in
      ap (λ (n : ℕ). n % ring.size) k ∙ sym (mod-add-mod (tail + ring.origin) ring.size q) ∙ ap (λ (n : ℕ). (n + q) % ring.size) e
      ∙ ap (λ (n : ℕ). n % ring.size) (zero-add q) ∙ mod-eq_of_lt h

  pub run_lies : RingFits ring → 8 * ring.size ≤ length room → slot_of ring tail ≡ 0 → take (8 * (length all - tail)) room ≡ laid record_numbers (drop tail all)
  run_lies f rf e =
      let n = length all - tail in
      let fi = m.fits in
      let ld : length (drop tail all) ≡ n = length-drop tail all in
      let ll = laid_length record_numbers 8 record_size (drop tail all) in
      let lt : length (take (8 * n) room) ≡ 8 * n = length-take-le (8 * n) room (omega arith) in
      ext_get_or 0 (take (8 * n) room) (laid record_numbers (drop tail all)) (omega arith)
      (λ i h. number i (i / 8) (i % 8) (omega arith) (omega arith) (omega arith))
    where
      number : (i q r : ℕ) → i ≡ q * 8 + r → r < 8 → q < length all - tail
          → get_or (take (8 * (length all - tail)) room) i 0 ≡ get_or (laid record_numbers (drop tail all)) i 0
      number i q r ei hr hq =
          let fi = m.fits in
          let ld = length-drop tail all in
          let eq : i ≡ 8 * q + r = omega arith in
          let h = (m.stored (tail + q) (omega arith) (omega arith)).numbers r hr in
          get_or-take (8 * (length all - tail)) room i 0 (omega arith)
          ∙ ap (λ (t : ℕ). get_or room t 0) eq
          ∙ ap (λ (t : ℕ). get_or room (8 * t + r) 0) (sym (slot_is f e q (omega arith)))
          ∙ h
          ∙ ap (λ (x : Record). get_or (record_numbers x) r 0) (sym (get_or-drop tail all q nothing))
          ∙ sym (laid_at record_numbers 8 record_size (drop tail all) q r nothing (omega arith) hr)
          ∙ ap (λ (t : ℕ). get_or (laid record_numbers (drop tail all)) t 0) (sym ei)

pub holds_run : {firsts nexts room₀ : List ℕ} {ring : Ring} {c : Settings} → SweepSafe firsts nexts room₀ ring c → walked_need c.b firsts nexts ≤ ring.size
    → slot_of ring (length (walked_to firsts nexts (length firsts - c.b - 1))) ≡ 0 → {room latest list : List ℕ} {w : Swept}
    → SweepDone firsts nexts ring c room latest list w → length room ≡ length room₀ → {room' : List ℕ}
    → room' ≡ take (8 * (w.head - w.tail)) room ++ replicate (length room - 8 * (w.head - w.tail)) 0
    → HoldsRun firsts nexts c room₀ room' (w.head - w.tail)
unfolding then_zeros run_of walked walked_to
holds_run {firsts} {nexts} {room₀} {ring} {c} s enough z {room} {latest} {list} {w} d el {room'} er =
    let hit = walks_to firsts nexts in
    let columns = length nexts in
    let rows = length firsts in
    let a = described_room s.walks enough in
    let all = swept_to c.b hit columns rows 0 in
    let m = d.machine hit columns a in
    let n = d.counted hit columns a in
    let t = tail_is c hit columns rows ring a.described.narrow s.walks.few_rows s.few_bases room latest w.tail m in
    let zero : slot_of ring w.tail ≡ 0 = ap (slot_of ring) t ∙ z in
    let run : keep (λ x. in_run c.b rows x.cell) (records_from c.b [] (matches_to hit columns rows)) ≡ drop w.tail all =
    ap (keep (λ (x : Record). in_run c.b rows x.cell)) (sym (swept_all c.b hit columns rows))
    ∙ run_is c hit columns rows ring a.described.narrow s.walks.few_rows s.few_bases room latest w.tail m in
    let lies = run_lies c hit columns rows ring a.described.narrow s.walks.few_rows s.few_bases room latest w.tail m s.fits
    (rw el s.room_for) zero in
    let k : length all - w.tail ≡ w.head - w.tail = ap (λ (q : ℕ). q - w.tail) n in
    let front : take (8 * (w.head - w.tail)) room ≡ laid record_numbers (drop w.tail all) = ap (λ (q : ℕ). take (8 * q) room) (sym k) ∙ lies in
    let ll = laid_length record_numbers 8 record_size (drop w.tail all) in
    let ld = length-drop w.tail all in
    let rest : length room - 8 * (w.head - w.tail) ≡ length room₀ - length (laid record_numbers (drop w.tail all)) = omega arith in
    record {
      counted = rw run (sym k ∙ sym ld);
      held = rw run (er ∙ ap (λ (l : List ℕ). l ++ replicate (length room - 8 * (w.head - w.tail)) 0) front
          ∙ ap (λ (q : ℕ). laid record_numbers (drop w.tail all) ++ replicate q 0) rest);
    }
