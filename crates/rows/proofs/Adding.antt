-- One more record keeps the state: it goes into a slot that no held record has, and its column's latest number is its own. Assumes nothing.
use Rattle.std.proofs.Common.{◌≡◌, ℕ, ◌+◌, ◌-◌, ◌*◌, ◌%◌, ◌^◌, ◌<◌, ◌≤◌, List, [], ◌∷◌, ◌++◌, length, get_or, set, sym, refl, ap, ◌∙◌, subst, mod-lt, mod-eq_of_lt, add-one, arith, length-append, get_or-set_other, get_or-set_same}
use mathlib.Core.Option.{Option, none, some}
use native.Mathlib.Nat.{mod-eq-sub-mod, mod-add-mod}
use lib.ListN.{get_or-append}
use lib.Seq.{get_or-append_seam}
use Rattle.rules.specs.declared.Cell.{Cell}
use Rattle.rules.specs.declared.Record.{Record}
use Rattle.rules.specs.Matches.{cell}
use Rattle.rules.specs.Records.{pick, record_after, record_of}
use Rattle.rules.proofs.Tests.{Three, below, equal, above, three}
use Rattle.rules.proofs.Weights.{Sure, pick_sure}
use Rattle.rules.proofs.Starts.{record_cell}
use Rattle.records.specs.Layout.{record_in, Holds, put_record}
use Rattle.records.proofs.Slots.{put_same, put_other}
use Rattle.predecessors.specs.declared.ring.Ring.{Ring}
use Rattle.predecessors.specs.Numbers.{slot_of, numbered, nothing, nth}
use Rattle.predecessors.specs.Index.{InRoom, Ready, Found}
use Rattle.predecessors.proofs.Steps.{numbered_none, numbered_at}
use Rattle.rows.specs.Machine.{Machine, next_record, Light, AddSafe, Added}

-- ---- slots

-- numbers less than a turn apart have different remainders
mod_apart : (size g n : ℕ) → 1 ≤ size → g < n → n < g + size → g % size ≡ n % size → ⊥
mod_apart size g n hc hl hg e =
    let lx : g % size < size = mod-lt g hc in
    let d : g + (n - g) ≡ n = omega arith in
    let f : (g % size + (n - g)) % size ≡ n % size = mod-add-mod g size (n - g) ∙ ap (λ (t : ℕ). t % size) d in
    go (three (g % size + (n - g)) size) f lx
  where
    over : size ≤ g % size + (n - g) → g % size < size → (g % size + (n - g)) % size ≡ g % size + (n - g) - size
    over h lx = mod-eq-sub-mod h ∙ mod-eq_of_lt (omega arith)

    go : Three (g % size + (n - g)) size → (g % size + (n - g)) % size ≡ n % size → g % size < size → ⊥
    go (below h) f lx = let k : (g % size + (n - g)) % size ≡ g % size + (n - g) = mod-eq_of_lt h in omega arith
    go (equal h) f lx = let k = over (omega arith) lx in omega arith
    go (above h) f lx = let k = over (omega arith) lx in omega arith

-- so they lie in different slots
pub slot_apart : (ring : Ring) (g n : ℕ) → 1 ≤ ring.size → g < n → n < g + ring.size → slot_of ring g ≡ slot_of ring n → ⊥
unfolding slot_of
slot_apart ring g n hc hl hg e = mod_apart ring.size (g + ring.origin) (n + ring.origin) hc (omega arith) (omega arith) e

pub slot_inside : (ring : Ring) (g : ℕ) → 1 ≤ ring.size → slot_of ring g < ring.size
unfolding slot_of
slot_inside ring g h = mod-lt (g + ring.origin) h

pub nth_old : (all : List Record) (x : Record) (g : ℕ) → g < length all → nth (all ++ (x ∷ [])) g ≡ nth all g
nth_old all x g h = get_or-append all (x ∷ []) nothing g h

pub nth_new : (all : List Record) (x : Record) → nth (all ++ (x ∷ [])) (length all) ≡ x
nth_new all x = get_or-append_seam all x [] nothing

pub length_snoc : (all : List Record) (x : Record) → length (all ++ (x ∷ [])) ≡ length all + 1
length_snoc all x = length-append all (x ∷ [])

-- ---- one more record

module _ (b i : ℕ) (all : List Record) (room latest : List ℕ) (ring : Ring) (tail : ℕ) (m : Machine b i all room latest ring tail) (x : Record)
    (some_room : 1 ≤ ring.size) (room_for : 8 * ring.size ≤ length room) (space : length all < tail + ring.size)
    (wide : x.cell.column < length latest) (row : x.cell.row ≡ i) where
  abbrev n : ℕ
  n = length all

  abbrev more : List Record
  more = all ++ (x ∷ [])

  abbrev column : ℕ
  column = x.cell.column

  same : (g : ℕ) → g < n → nth more g ≡ nth all g
  same g h = nth_old all x g h

  entry_new : get_or (set latest column (n + 1)) column 0 ≡ n + 1
  entry_new = get_or-set_same latest column (n + 1) 0 wide

  entry_old : (q : ℕ) → (q ≡ column → ⊥) → get_or (set latest column (n + 1)) q 0 ≡ get_or latest q 0
  entry_old q h = get_or-set_other latest column q (n + 1) 0 h

  ring_add : InRoom more (put_record room (slot_of ring n) x) ring tail
  ring_add g h l = go (three g n)
    where
      go : Three g n → Holds (put_record room (slot_of ring n) x) (slot_of ring g) (nth more g)
      go (below k) =
          rw (same g k)
          (put_other room (slot_of ring n) x (slot_of ring g) (nth all g) (λ e. slot_apart ring g n some_room k (omega arith) e) (m.stored g h k))
      go (equal k) =
          let s = slot_inside ring n some_room in
          rw (k, nth_new all x) (put_same room (slot_of ring n) x (omega arith))
      go (above k) = absurd (let e = length_snoc all x in omega arith)

  within_add : (q : ℕ) → Three q column → get_or (set latest column (n + 1)) q 0 ≤ length more
  within_add q (below k) = let e = entry_old q (λ z. omega arith) in let u = m.columns.within q in let l = length_snoc all x in omega arith
  within_add q (above k) = let e = entry_old q (λ z. omega arith) in let u = m.columns.within q in let l = length_snoc all x in omega arith
  within_add q (equal k) = let e = ap (λ (t : ℕ). get_or (set latest column (n + 1)) t 0) k ∙ entry_new in let l = length_snoc all x in omega arith

  column_old : (q : ℕ) → (q ≡ column → ⊥) → 1 ≤ get_or (set latest column (n + 1)) q 0 → (nth more (get_or (set latest column (n + 1)) q 0 - 1)).cell.column ≡ q
  column_old q h =
      rw (entry_old q h)
      (λ l. let u = m.columns.within q in
      ap (λ (r : Record). r.cell.column) (same (get_or latest q 0 - 1) (omega arith)) ∙ m.columns.column q l)

  column_add : (q : ℕ) → Three q column → 1 ≤ get_or (set latest column (n + 1)) q 0 → (nth more (get_or (set latest column (n + 1)) q 0 - 1)).cell.column ≡ q
  column_add q (below k) l = column_old q (λ z. omega arith) l
  column_add q (above k) l = column_old q (λ z. omega arith) l
  column_add q (equal k) l =
      let e : get_or (set latest column (n + 1)) q 0 - 1 ≡ n = (let f = ap (λ (t : ℕ). get_or (set latest column (n + 1)) t 0) k ∙ entry_new in omega arith) in
      ap (λ (t : ℕ). (nth more t).cell.column) e ∙ ap (λ (r : Record). r.cell.column) (nth_new all x) ∙ sym k

  newest_at : (g q : ℕ) → g < n → g < get_or latest q 0 → Three q column → g < get_or (set latest column (n + 1)) q 0
  newest_at g q h l (below k) = let e = entry_old q (λ z. omega arith) in omega arith
  newest_at g q h l (above k) = let e = entry_old q (λ z. omega arith) in omega arith
  newest_at g q h l (equal k) = let f = ap (λ (t : ℕ). get_or (set latest column (n + 1)) t 0) k ∙ entry_new in omega arith

  newest_add : (g : ℕ) → Three g n → g < length more → g < get_or (set latest column (n + 1)) (nth more g).cell.column 0
  newest_add g (below k) l = rw (same g k) (newest_at g (nth all g).cell.column k (m.columns.newest g k) (three (nth all g).cell.column column))
  newest_add g (equal k) l = rw (k, nth_new all x, entry_new) (omega arith)
  newest_add g (above k) l = absurd (let e = length_snoc all x in omega arith)

  kept_add : (g : ℕ) → tail ≤ g → Three g n → g < length more → i ≤ (nth more g).cell.row + b
  kept_add g h (below k) l = rw (same g k) (m.kept g h k)
  kept_add g h (equal k) l = rw (k, nth_new all x) (omega arith)
  kept_add g h (above k) l = absurd (let e = length_snoc all x in omega arith)

  pub machine_add : Machine b i more (put_record room (slot_of ring n) x) (set latest column (n + 1)) ring tail
  machine_add =
      record {
        stored = ring_add;
        columns = record { within = λ q. within_add q (three q column); column = λ q. column_add q (three q column); newest = λ g. newest_add g (three g n) };
        gone = λ g h l. (let o = m.order in let k : g < n = omega arith in rw (same g k) (m.gone g h k));
        kept = λ g h. kept_add g h (three g n);
        order = (let o = m.order in let e = length_snoc all x in omega arith);
        fits = (let e = length_snoc all x in omega arith);
      }

-- ---- the record of the next match

pub next_none : (room : List ℕ) (ring : Ring) (c : Cell) → record { cell = c; weight = 1; start = c } ≡ next_record c (numbered room ring 0)
unfolding next_record
next_none room ring c = rw (numbered_none room ring)

pub next_some : (room : List ℕ) (ring : Ring) (g : ℕ) (c : Cell) (x : Record) → x ≡ record_in room (slot_of ring g)
    → record { cell = c; weight = (x.weight + 1) % 2 ^ 32; start = x.start } ≡ next_record c (numbered room ring (g + 1))
unfolding next_record
next_some room ring g c x e = rw (numbered_at room ring g, ← e)

next_after : (c : Cell) (o : Option Record) → Sure (λ x. x.weight + 1 < 2 ^ 32) o → next_record c o ≡ record_after c o
unfolding next_record record_after
next_after c none s = refl
next_after c (some x) s =
    let e : (x.weight + 1) % 2 ^ 32 ≡ x.weight + 1 = mod-eq_of_lt s in
    λ t. record { cell = c; weight = (e ∙ add-one x.weight) t; start = x.start }

module _ (b i j : ℕ) (room latest : List ℕ) (ring : Ring) (tail head near column from p : ℕ) (s : AddSafe room latest ring head i j)
    (f : Found room latest ring tail near column from b j p) where
  one_more : (all : List Record) → Ready b i j all room latest ring tail near column from → Light all
      → next_record (cell i j) (numbered room ring p) ≡ record_of b all (cell i j)
  unfolding record_of
  one_more all r l =
      ap (next_record (cell i j)) (f.picked i all r)
      ∙ next_after (cell i j) (pick b (cell i j) none all) (pick_sure b (cell i j) (λ x. x.weight + 1 < 2 ^ 32) all none tt (λ x m _. l x m))

  pub add_more : Added b i j room latest ring tail head near column from (put_record room (slot_of ring head) (next_record (cell i j) (numbered room ring p)))
      (set latest j (head + 1))
  add_more = record { added = go }
    where
      go : (all : List Record) → Ready b i j all room latest ring tail near column from → length all ≡ head → tail ≤ head → head < tail + ring.size → Light all
          → Machine b i (all ++ (record_of b all (cell i j) ∷ [])) (put_record room (slot_of ring head) (next_record (cell i j) (numbered room ring p)))
          (set latest j (head + 1)) ring tail
      go all r e o k l =
          let x = record_of b all (cell i j) in
          let ec : x.cell ≡ cell i j = record_cell b all (cell i j) in
          let er : x.cell.row ≡ i = ap (λ (y : Cell). y.row) ec in
          let ej : x.cell.column ≡ j = ap (λ (y : Cell). y.column) ec in
          let m : Machine b i all room latest ring tail =
          record { stored = r.stored; columns = r.columns; gone = r.gone; kept = r.kept; order = omega arith; fits = omega arith } in
          let w = s.inside in
          let d = machine_add b i all room latest ring tail m x s.fits.some_room s.room_for (omega arith) (omega arith) er in
          let d1 : Machine b i (all ++ (x ∷ [])) (put_record room (slot_of ring (length all)) x) (set latest j (length all + 1)) ring tail =
          subst (λ (t : ℕ). Machine b i (all ++ (x ∷ [])) (put_record room (slot_of ring (length all)) x) (set latest t (length all + 1)) ring tail) ej d in
          let d2 : Machine b i (all ++ (x ∷ [])) (put_record room (slot_of ring head) x) (set latest j (head + 1)) ring tail =
          subst (λ (t : ℕ). Machine b i (all ++ (x ∷ [])) (put_record room (slot_of ring t) x) (set latest j (t + 1)) ring tail) e d1 in
          rw (one_more all r l) d2
