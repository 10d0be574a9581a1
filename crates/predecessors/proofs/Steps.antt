-- The walk by running numbers: each step of the search keeps what the walk says, for any records that the index describes. Assumes nothing.
use mathlib.Core.Path.{◌≡◌, refl, sym, ap, ◌∙◌}
use mathlib.Core.Logic.{◌⊎◌, inl, inr}
use mathlib.Core.Bool.{true, false, cond}
use mathlib.Core.Option.{none, some}
use mathlib.Core.List.{List, Memᴰ}
use Prim.Native.Nat.{ℕ, suc, ◌+◌, ◌-◌, ◌≤◌, ◌<◌}
use native.Mathlib.Nat.{le_of_eq}
use native.Mathlib.Omega.{arith}
use borrow.Author.Tests.{ne_eqb, le-leb, lt-leb}
use lib.Dec.{T, leb}
use lib.ListN.{length, get_or}
use Rattle.rules.specs.declared.Cell.{Cell}
use Rattle.rules.specs.declared.Record.{Record}
use Rattle.rules.specs.Matches.{cell}
use Rattle.rules.specs.Records.{beats, better, pick}
use Rattle.rules.proofs.Tests.{Three, below, equal, above, three, tested, tests}
use Rattle.rules.proofs.ListLaws.{mem_at}
use Rattle.rules.proofs.Ties.{Under}
use Rattle.records.specs.Layout.{record_in}
use Rattle.records.proofs.Slots.{holds_record}
use Rattle.predecessors.specs.declared.ring.Ring.{Ring}
use Rattle.predecessors.specs.Numbers.{slot_of, numbered, nothing, nth}
use Rattle.predecessors.specs.Index.{Known, Sorted, Nearest, no_near, has_near, Ready, Found}
use Rattle.predecessors.proofs.Walks.{Near, Walk, beyond, best_is, is_near, walk_none, walk_near, walk_skip, walk_take, walk_end, walk_stop}

pub cond_yes : (lo column x y : ℕ) → lo ≤ column → x ≡ cond (leb lo column) x y
cond_yes lo column x y h = rw (le-leb lo column h)

pub cond_no : (lo column x y : ℕ) → column < lo → y ≡ cond (leb lo column) x y
cond_no lo column x y h = rw (lt-leb lo column h)

pub numbered_none : (room : List ℕ) (ring : Ring) → numbered room ring 0 ≡ none
unfolding numbered
numbered_none room stored = refl

pub numbered_some : (room : List ℕ) (ring : Ring) (n : ℕ) → (n ≡ 0 → ⊥) → numbered room ring n ≡ some (record_in room (slot_of ring (n - 1)))
unfolding numbered
numbered_some room ring n h = rw (ne_eqb n 0 h)

-- with no match on the left, the walk begins with none and goes down to the window's end
pub cond_none : (lo : ℕ) → lo - 1 ≡ cond (leb lo 0) 0 (lo - 1)
cond_none lo = go (three lo 0)
  where
    go : Three lo 0 → lo - 1 ≡ cond (leb lo 0) 0 (lo - 1)
    go (below h) = absurd (omega arith)
    go (equal e) = rw (le-leb lo 0 (omega arith)) (omega arith)
    go (above h) = cond_no lo 0 0 (lo - 1) h

pub cond_zero : (lo x : ℕ) → x ≡ cond (leb lo 0) x x
cond_zero lo x = go (three lo 0)
  where
    go : Three lo 0 → x ≡ cond (leb lo 0) x x
    go (below h) = absurd (omega arith)
    go (equal e) = cond_yes lo 0 x x (omega arith)
    go (above h) = cond_no lo 0 x x h

-- a record by its number
pub numbered_at : (room : List ℕ) (ring : Ring) (g : ℕ) → numbered room ring (g + 1) ≡ some (record_in room (slot_of ring g))
numbered_at room ring g =
    let e : g + 1 - 1 ≡ g = omega arith in
    numbered_some room ring (g + 1) (λ z. omega arith) ∙ ap (λ (n : ℕ). some (record_in room (slot_of ring n))) e

better_yes : (x y : Record) → beats x y ≡ true → better (some y) x ≡ some x
unfolding better
better_yes x y e = rw e

better_no : (x y : Record) → beats x y ≡ false → better (some y) x ≡ some y
unfolding better
better_no x y e = rw e

-- the preferred one of two
module _ (room : List ℕ) (ring : Ring) (g : ℕ) where
  pub weigh_first : numbered room ring (g + 1) ≡ better (numbered room ring 0) (record_in room (slot_of ring g))
  unfolding better
  weigh_first = rw (numbered_at room ring g, numbered_none room ring)

  module _ (h : ℕ) (x y : Record) (ex : x ≡ record_in room (slot_of ring g)) (ey : y ≡ record_in room (slot_of ring h)) where
    pub weigh_new : beats x y ≡ true → numbered room ring (g + 1) ≡ better (numbered room ring (h + 1)) (record_in room (slot_of ring g))
    weigh_new e = numbered_at room ring g ∙ sym (rw (numbered_at room ring h, ← ex, ← ey) (better_yes x y e))

    pub weigh_old : beats x y ≡ false → numbered room ring (h + 1) ≡ better (numbered room ring (h + 1)) (record_in room (slot_of ring g))
    weigh_old e = numbered_at room ring h ∙ sym (rw (numbered_at room ring h, ← ex, ← ey) (better_no x y e))

-- members by number
pub mem_nth : (all : List Record) (g : ℕ) → g < length all → Memᴰ (nth all g) all
mem_nth all g h = mem_at all g nothing h

pub nth_mem : (x : Record) (all : List Record) → Memᴰ x all → (g : ℕ) × (g < length all) × (x ≡ nth all g)
nth_mem x all (Memᴰ.head {x = y} {xs = ys} e) = (0, omega arith, e)
nth_mem x all (Memᴰ.tail {x = y} {xs = ys} m) = let (g, h, e) = nth_mem x ys m in (suc g, omega arith, e)

-- numbers go by row
pub rows_sorted : (all : List Record) → Sorted all → (g h : ℕ) → g ≤ h → h < length all → (nth all g).cell.row ≤ (nth all h).cell.row
rows_sorted all s g h l k = go (three g h)
  where
    go : Three g h → (nth all g).cell.row ≤ (nth all h).cell.row
    go (below q) = (s g h q k).row_le
    go (equal q) = le_of_eq (ap (λ (n : ℕ). (nth all n).cell.row) q)
    go (above q) = absurd (omega arith)

-- what a search has left so far: the columns above q are passed, and top is the latest number met, or tail
pub data Met (b : ℕ) (c : Cell) (all : List Record) (tail q top : ℕ) : Type 0 where
  met_none : top ≡ tail → Met b c all tail q top
  met_one : 1 ≤ top → top ≤ length all → Near b c all (nth all (top - 1)) → q < (nth all (top - 1)).cell.column → Met b c all tail q top

pub record Passed (b i j : ℕ) (all : List Record) (room : List ℕ) (ring : Ring) (tail q stop top best : ℕ) : Type 0 where
  pub walk : Walk b (cell i j) all q stop (numbered room ring best)
  pub met : Met b (cell i j) all tail q top
  pub above : tail ≤ top

pub record WalkedDown (room latest : List ℕ) (ring : Ring) (tail near column from b j q stop top best : ℕ) : Type 0 where
  pub passed : (i : ℕ) (all : List Record) → Ready b i j all room latest ring tail near column from → Passed b i j all room ring tail q stop top best

-- the nearest match of the row lies in the window, or there is none and the window reaches column 0
near_begins : (room latest : List ℕ) (ring : Ring) (tail near column from b j i : ℕ) (all : List Record) → j - b ≤ column
    → Ready b i j all room latest ring tail near column from
    → Walk b (cell i j) all j column (numbered room ring near)
near_begins room latest ring tail near column from b j i all h r = go r.nearest
  where
    w : Known b (cell i j) all
    w = r.known

    go : Nearest i all near column → Walk b (cell i j) all j column (numbered room ring near)
    go (no_near e f g) =
        rw (e, numbered_none room ring)
        (walk_none b (cell i j) all w column
        (λ x n k. let (t, l, q) = nth_mem x all n.here in g t l (sym (ap (λ (y : Record). y.cell.row) q) ∙ k))
        (λ x n k. (let l = w.from_one x n.here in omega arith)))
    go (has_near l m k e g) =
        let y = nth all (near - 1) in
        let my = mem_nth all (near - 1) (omega arith) in
        let o = w.own y my k in
        let t : tail ≤ near - 1 = held (near - 1) (omega arith) k in
        rw (numbered_some room ring near (λ z. omega arith), holds_record room (slot_of ring (near - 1)) y (r.stored (near - 1) t (omega arith)), ← e)
        (walk_near b (cell i j) all w y (is_near b (cell i j) all w y my (omega arith) (omega arith) (omega arith)) k
        (λ x n d. let (t, l, q) = nth_mem x all n in
        let u = g t l (sym (ap (λ (y : Record). y.cell.row) q) ∙ d) in
        let v = ap (λ (y : Record). y.cell.column) q in
        omega arith))
      where
        held : (n : ℕ) → n < length all → (nth all n).cell.row ≡ i → tail ≤ n
        held n h e = let z : ¬ (n < tail) = λ t. (let u = r.gone n t h in omega arith) in omega arith

-- it lies left of the window
far_begins : (room latest : List ℕ) (ring : Ring) (tail near column from b j i : ℕ) (all : List Record) → column < j - b
    → Ready b i j all room latest ring tail near column from
    → Walk b (cell i j) all j (j - b - 1) (numbered room ring 0)
far_begins room latest ring tail near column from b j i all h r =
    rw (numbered_none room ring)
    (walk_none b (cell i j) all r.known (j - b - 1) (λ x n k. go r.nearest x n k (nth_mem x all n.here)) (λ x n k. (let e = n.left in omega arith)))
  where
    go : Nearest i all near column → (x : Record) → Near b (cell i j) all x → x.cell.row ≡ i → ((g : ℕ) × (g < length all) × (x ≡ nth all g)) → ⊥
    go (no_near e f g) x n k (t, l, q) = g t l (sym (ap (λ (y : Record). y.cell.row) q) ∙ k)
    go (has_near l m k' e g) x n k (t, l', q) =
        let u = g t l' (sym (ap (λ (y : Record). y.cell.row) q) ∙ k) in
        let v = ap (λ (y : Record). y.cell.column) q in
        let w = n.left in
        omega arith

module _ {room latest : List ℕ} {ring : Ring} {tail near column from b j : ℕ} where
  walked_near : j - b ≤ column → WalkedDown room latest ring tail near column from b j j column tail near
  walked_near h = record {
    passed =
        λ i all r. record { walk = near_begins room latest ring tail near column from b j i all h r; met = met_none refl; above = omega arith };
  }

  walked_far : column < j - b → WalkedDown room latest ring tail near column from b j j (j - b - 1) tail 0
  walked_far h = record {
    passed =
        λ i all r. record { walk = far_begins room latest ring tail near column from b j i all h r; met = met_none refl; above = omega arith };
  }

  -- so the walk begins
  pub walked_begin : {best stop : ℕ} → best ≡ cond (leb (j - b) column) near 0 → stop ≡ cond (leb (j - b) column) column (j - b - 1)
      → (j - b ≤ stop + 1) × WalkedDown room latest ring tail near column from b j j stop tail best
  walked_begin eb es = rw (eb, es) (go (tested (leb (j - b) column)))
    where
      go : T (leb (j - b) column) ⊎ (¬ T (leb (j - b) column))
          → (j - b ≤ cond (leb (j - b) column) column (j - b - 1) + 1)
          × WalkedDown room latest ring tail near column from b j j (cond (leb (j - b) column) column (j - b - 1)) tail (cond (leb (j - b) column) near 0)
      go (inl t) = let h : j - b ≤ column = simp tests at t in rw (le-leb (j - b) column h) (omega arith, walked_near h)
      go (inr t) = let h = simp tests at t in let g : column < j - b = omega arith in rw (lt-leb (j - b) column g) (omega arith, walked_far g)

  module _ {q stop top best : ℕ} (v : WalkedDown room latest ring tail near column from b j q stop top best) (h : stop < q) where
    module _ (i : ℕ) (all : List Record) (g : Ready b i j all room latest ring tail near column from) where
      abbrev c : Cell
      c = cell i j

      -- column q's last record is not later than one already met, or is released: nothing there matters
      under : get_or latest q 0 ≤ top → Met b c all tail q top → (x : Record) → Near b c all x → x.cell.column ≡ q
          → ((n : ℕ) × (n < length all) × (x ≡ nth all n)) → Under x (numbered room ring best)
      under le m x n e (k, l, p) =
          let pc = ap (λ (y : Record). y.cell.column) p in
          let pr = ap (λ (y : Record). y.cell.row) p in
          let new : k < get_or latest (nth all k).cell.column 0 = g.columns.newest k l in
          let same : get_or latest (nth all k).cell.column 0 ≡ get_or latest q 0 = ap (λ (t : ℕ). get_or latest t 0) (sym pc ∙ e) in
          by m k l (omega arith) pr
        where
          by : Met b c all tail q top → (k : ℕ) → k < length all → k < top → x.cell.row ≡ (nth all k).cell.row → Under x (numbered room ring best)
          by (met_none t) k l kt pr = absurd (let u = g.gone k (omega arith) l in let w = n.left in omega arith)
          by (met_one t u ny f) k l kt pr =
              let s = rows_sorted all g.sorted k (top - 1) (omega arith) (omega arith) in
              beyond b c all g.known x (nth all (top - 1)) (numbered room ring best) n ny (omega arith) (omega arith)
              ((v.passed i all g).walk.over (nth all (top - 1)) ny f)

      met_down : (p : ℕ) → p ≤ q → Met b c all tail q top → Met b c all tail p top
      met_down p l (met_none t) = met_none t
      met_down p l (met_one t u ny f) = met_one t u ny (omega arith)

      skipped : get_or latest q 0 ≤ top → Passed b i j all room ring tail (q - 1) stop top best
      skipped le =
          let p = v.passed i all g in
          record {
            walk =
                walk_skip b c all g.known q stop (numbered room ring best) p.walk (q - 1)
                (λ x n k l. under le p.met x n (omega arith) (nth_mem x all n.here));
            met = met_down (q - 1) (omega arith) p.met;
            above = p.above;
          }

    -- nothing in column q that could be better
    pub walked_skip : get_or latest q 0 ≤ top → WalkedDown room latest ring tail near column from b j (q - 1) stop top best
    walked_skip e = record { passed = λ i all g. skipped i all g e }

    module _ (low : j - b ≤ q) (high : q ≤ j) (r : ℕ) (lt : top < get_or latest q 0)
        (er : numbered room ring r ≡ better (numbered room ring best) (record_in room (slot_of ring (get_or latest q 0 - 1)))) where
      module _ (i : ℕ) (all : List Record) (g : Ready b i j all room latest ring tail near column from) where
        abbrev s : ℕ
        s = get_or latest q 0

        abbrev x : Record
        x = nth all (s - 1)

        s_in : s - 1 < length all
        s_in = let u = g.columns.within q in omega arith

        s_held : tail ≤ s - 1
        s_held = let u = (v.passed i all g).above in omega arith

        x_is : record_in room (slot_of ring (s - 1)) ≡ x
        x_is = holds_record room (slot_of ring (s - 1)) x (g.stored (s - 1) s_held s_in)

        x_column : x.cell.column ≡ q
        x_column = g.columns.column q (omega arith)

        x_near : Near b (cell i j) all x
        x_near =
            let e = x_column in
            let k = g.kept (s - 1) s_held s_in in
            is_near b (cell i j) all g.known x (mem_nth all (s - 1) s_in) (omega arith) (omega arith) (omega arith)

        x_top : (z : Record) → Memᴰ z all → z.cell.column ≡ q → z.cell.row ≤ x.cell.row
        x_top z m e =
            let (k, l, p) = nth_mem z all m in
            let pc = ap (λ (y : Record). y.cell.column) p in
            let pr = ap (λ (y : Record). y.cell.row) p in
            let new : k < get_or latest (nth all k).cell.column 0 = g.columns.newest k l in
            let same : get_or latest (nth all k).cell.column 0 ≡ get_or latest q 0 = ap (λ (t : ℕ). get_or latest t 0) (sym pc ∙ e) in
            let o = rows_sorted all g.sorted k (s - 1) (omega arith) s_in in
            omega arith

        taken : Walk b (cell i j) all (q - 1) stop (numbered room ring r)
        taken =
            rw (er, x_is)
            (walk_take b (cell i j) all g.known q stop (numbered room ring best) (v.passed i all g).walk x x_near x_column x_top)

        ended : from < s → numbered room ring r ≡ pick b (cell i j) none all
        ended l =
            let k = x_column in
            best_is b (cell i j) all g.known.single (numbered room ring r)
            (walk_stop b (cell i j) all g.known (q - 1) stop (numbered room ring r) taken x x_near (omega arith)
            (λ z m d. let (n, nl, p) = nth_mem z all m in
            let pr = ap (λ (y : Record). y.cell.row) p in
            let u = g.late (s - 1) n (omega arith) s_in nl (omega arith) in omega arith))

        passed : Passed b i j all room ring tail (q - 1) stop s r
        passed =
            let k = x_column in
            let u = (v.passed i all g).above in
            record { walk = taken; met = met_one (omega arith) (g.columns.within q) x_near (omega arith); above = omega arith }

      -- column q's last record is later than all that were met: the better of it and the best so far
      pub walked_take : WalkedDown room latest ring tail near column from b j (q - 1) stop (get_or latest q 0) r
      walked_take = record { passed = passed }

      -- and it is of the latest row before this one: nothing further left can be better
      pub walked_stop : from < get_or latest q 0 → Found room latest ring tail near column from b j r
      walked_stop l = record { picked = λ i all g. ended i all g l }

  pub walked_end : {q stop top best : ℕ} → WalkedDown room latest ring tail near column from b j q stop top best → q ≤ stop
      → Found room latest ring tail near column from b j best
  walked_end {q} {stop} {top} {best} v h =
      record {
        picked = λ i all g.
            best_is b (cell i j) all g.known.single (numbered room ring best)
            (walk_end b (cell i j) all g.known q stop (numbered room ring best) (v.passed i all g).walk h);
      }
