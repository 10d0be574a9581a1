-- Releasing record by record: the records left behind are old, and those of them that are listed stand in the list room in order. Assumes nothing.
use mathlib.Core.Path.{◌≡◌, refl, sym, ap, subst⁻¹, ◌∙◌}
use mathlib.Core.Bool.{Bool, true, false, cond}
use mathlib.Core.List.{List, [], ◌∷◌, ◌++◌, append-nil}
use Prim.Native.Nat.{ℕ, ◌+◌, ◌*◌, ◌/◌, ◌^◌, ◌≤◌, ◌<◌}
use native.Mathlib.Omega.{arith}
use native.Mathlib.Nat.{le_refl}
use native.Mathlib.Numerals.{add-one}
use borrow.Author.Tests.{lt-ltb, le-ltb}
use lib.Dec.{ltb}
use lib.ListN.{length, take, drop, length-append}
use lib.Seq.{sets-eq, length-sets, take-suc, take_at, length-take-le}
use Rattle.rules.specs.declared.Settings.{Settings}
use Rattle.rules.specs.declared.Cell.{Cell}
use Rattle.rules.specs.declared.Record.{Record}
use Rattle.rules.specs.Lists.{keep, laid}
use Rattle.rules.specs.Listing.{is_listed, entry_numbers}
use Rattle.rules.specs.Rooms.{list_holds}
use Rattle.rules.proofs.Tests.{Three, below, equal, above, three}
use Rattle.rules.proofs.ListLaws.{keep_append, laid_snoc}
use Rattle.records.specs.Layout.{record_in}
use Rattle.entries.specs.Layout.{entry_in32, put_entry}
use Rattle.records.proofs.Slots.{holds_record}
use Rattle.entries.proofs.Fitting.{entry_fits_lem}
use Rattle.predecessors.specs.declared.ring.Ring.{Ring}
use Rattle.predecessors.specs.Numbers.{slot_of, nothing, nth}
use Rattle.predecessors.specs.Index.{InRoom}
use Rattle.predecessors.proofs.Steps.{rows_sorted}
use Rattle.rows.specs.Machine.{Machine}
use Rattle.listing.specs.Leaving.{passes, listed_count, listed_room, ListedTo, ReleaseSafe, ReleaseAsks, ReleaseDone}
use Rattle.listing.proofs.Closing.{passes_listed}

-- ---- one record more

-- an entry put behind n others stands behind them
put_behind : (list : List ℕ) (n k : ℕ) (x : Record) → 6 * n + 6 ≤ length list → take (6 * (n + 1)) (put_entry list n k x) ≡ take (6 * n) list ++ entry_in32 k x
unfolding put_entry
put_behind list n k x h =
    let vs = entry_in32 k x in
    let front = take (6 * n) list ++ vs in
    let l : length front ≡ 6 * (n + 1) = omega (arith, length-take-le (6 * n) list (omega arith), length-append (take (6 * n) list) vs) in
    ap (λ (t : List ℕ). take (6 * (n + 1)) t) (sets-eq vs list (6 * n) h) ∙ take_at front (drop (6 * n + 6) list) (6 * (n + 1)) l

put_length : (list : List ℕ) (n k : ℕ) (x : Record) → length (put_entry list n k x) ≡ length list
unfolding put_entry
put_length list n k x = length-sets list (6 * n) (entry_in32 k x)

room_length : (pass : Bool) (k : ℕ) (x : Record) (list : List ℕ) (n : ℕ) → length (listed_room pass k x list n) ≡ length list
unfolding listed_room
room_length false k x list n = refl
room_length true k x list n = go (ltb n (list_holds list))
  where
    go : (t : Bool) → length (cond t (put_entry list n k x) list) ≡ length list
    go true = put_length list n k x
    go false = refl

-- what the ways of listing a record leave
pub count_yes : (pass : Bool) (n : ℕ) → pass ≡ true → n + 1 ≡ listed_count pass n
unfolding listed_count
count_yes pass n e = rw e

pub count_no : (pass : Bool) (n : ℕ) → pass ≡ false → n ≡ listed_count pass n
unfolding listed_count
count_no pass n e = rw e

module _ (pass : Bool) (k : ℕ) (x : Record) (list : List ℕ) (n : ℕ) where
  pub room_put : pass ≡ true → n < list_holds list → {list' : List ℕ} → list' ≡ put_entry list n k x → list' ≡ listed_room pass k x list n
  unfolding listed_room
  room_put e h d = rw (e, lt-ltb n (list_holds list) h) d

  pub room_full : pass ≡ true → list_holds list ≤ n → list ≡ listed_room pass k x list n
  unfolding listed_room
  room_full e h = rw (e, le-ltb n (list_holds list) h)

  pub room_no : pass ≡ false → list ≡ listed_room pass k x list n
  unfolding listed_room
  room_no e = rw e

-- one that is not listed changes nothing, one that is goes behind the others
module _ (c : Settings) (cells : List Cell) (front : List Record) (list : List ℕ) (n : ℕ) (x : Record) (v : ListedTo c cells front list n)
    (base : 1 ≤ c.k) (row : x.cell.row + c.k ≤ 2 ^ 32) (column : x.cell.column + c.k ≤ 2 ^ 32) where
  kept : (pass : Bool) → pass ≡ is_listed c cells x → keep (is_listed c cells) (front ++ (x ∷ [])) ≡ keep (is_listed c cells) front ++ cond pass (x ∷ []) []
  unfolding keep
  kept pass e = keep_append (is_listed c cells) front (x ∷ []) ∙ ap (λ (t : Bool). keep (is_listed c cells) front ++ cond {A = List Record} t (x ∷ []) []) (sym e)

  one_more : (pass : Bool) → pass ≡ is_listed c cells x → ListedTo c cells (front ++ (x ∷ [])) (listed_room pass c.k x list n) (listed_count pass n)
  unfolding listed_room listed_count
  one_more false e =
      let k : keep (is_listed c cells) (front ++ (x ∷ [])) ≡ keep (is_listed c cells) front = kept false e ∙ append-nil (keep (is_listed c cells) front) in
      record { counted = v.counted ∙ ap length (sym k); entries = λ h. v.entries h ∙ ap (laid (entry_numbers c.k)) (sym k) }
  one_more true e =
      let old = keep (is_listed c cells) front in
      let k : keep (is_listed c cells) (front ++ (x ∷ [])) ≡ old ++ (x ∷ []) = kept true e in
      record {
        counted = omega (arith, v.counted, ap length k, length-append old (x ∷ []));
        entries = λ h. entered k h;
      }
    where
      entered : keep (is_listed c cells) (front ++ (x ∷ [])) ≡ keep (is_listed c cells) front ++ (x ∷ []) → 6 * (n + 1) ≤ length (listed_room true c.k x list n)
          → take (6 * (n + 1)) (listed_room true c.k x list n) ≡ laid (entry_numbers c.k) (keep (is_listed c cells) (front ++ (x ∷ [])))
      entered k h =
          let l = room_length true c.k x list n in
          let fits : 6 * n + 6 ≤ length list = omega arith in
          let room : n < length list / 6 = omega arith in
          let yes : ltb n (length list / 6) ≡ true = lt-ltb n (length list / 6) room in
          ap (λ (t : Bool). take (6 * (n + 1)) (cond t (put_entry list n c.k x) list)) yes
          ∙ put_behind list n c.k x fits
          ∙ ap (λ (t : List ℕ). t ++ entry_in32 c.k x) (v.entries (omega arith))
          ∙ ap (λ (t : List ℕ). laid (entry_numbers c.k) (keep (is_listed c cells) front) ++ t) (entry_fits_lem c.k x base row column)
          ∙ sym (ap (laid (entry_numbers c.k)) k ∙ laid_snoc (entry_numbers c.k) (keep (is_listed c cells) front) x)

-- ---- record by record

-- the records from tail to t are old, and those before t that are listed are in the list
pub record Releasing (c : Settings) (i : ℕ) (room latest : List ℕ) (ring : Ring) (tail head : ℕ) (list₀ : List ℕ) (listed₀ t : ℕ) (list : List ℕ)
    (n : ℕ) : Type 0 where
  pub from : tail ≤ t
  pub to : t ≤ head
  pub few : n ≤ t
  pub size : length list ≡ length list₀
  pub old : (all : List Record) → InRoom all room ring tail → length all ≡ head → (g : ℕ) → tail ≤ g → g < t → (nth all g).cell.row + c.b < i
  pub entered : (k : ℕ) (all : List Record) (cells : List Cell) → ReleaseAsks c i k all cells room latest ring tail head
      → ListedTo c cells (take tail all) list₀ listed₀ → ListedTo c cells (take t all) list n

module _ {c : Settings} {i : ℕ} {room latest : List ℕ} {ring : Ring} {tail head : ℕ} {list₀ : List ℕ} {listed₀ : ℕ}
    (s : ReleaseSafe room ring tail head c listed₀) where
  pub releasing_start : Releasing c i room latest ring tail head list₀ listed₀ tail list₀ listed₀
  releasing_start =
      record { from = le_refl _; to = s.order; few = s.entries; size = refl; old = λ all r e g h l. absurd (omega arith); entered = λ k all cells a v. v }

  module _ {t : ℕ} {list : List ℕ} {n : ℕ} (v : Releasing c i room latest ring tail head list₀ listed₀ t list n) where
    -- what is read of record t is record t
    read_is : (all : List Record) → InRoom all room ring tail → length all ≡ head → t < head → (x : Record) (slot : ℕ) → slot ≡ slot_of ring t
        → x ≡ record_in room slot → x ≡ nth all t
    read_is all r e h x slot es ex =
        let f = v.from in
        ex ∙ ap (record_in room) es ∙ holds_record room (slot_of ring t) (nth all t) (r t f (omega arith))

    done : t ≤ head → ((k : ℕ) (all : List Record) (cells : List Cell) → ReleaseAsks c i k all cells room latest ring tail head
        → (g : ℕ) → t ≤ g → g < length all → i ≤ (nth all g).cell.row + c.b)
        → ReleaseDone c i room latest ring tail head list₀ listed₀ list (record { tail = t; listed = n })
    done h young =
        record { from = v.from; to = v.to; few = v.few; size = v.size; released = λ k all cells a. machine k all cells a; entered = v.entered }
      where
        machine : (k : ℕ) (all : List Record) (cells : List Cell) → ReleaseAsks c i k all cells room latest ring tail head
            → Machine c.b i all room latest ring t
        machine k all cells a =
            let m = a.machine in
            let f = v.from in
            let o = v.to in
            let fi = m.fits in
            let e = a.counted in
            let p = a.passed in
            record {
              stored = λ g q l. m.stored g (omega arith) l;
              columns = m.columns;
              gone = λ g q l. older g q l (three g tail);
              kept = λ g q l. young k all cells a g q l;
              order = omega arith;
              fits = omega arith;
            }
          where
            older : (g : ℕ) → g < t → g < length all → Three g tail → (nth all g).cell.row + c.b < i
            older g q l (below z) = let u = a.machine.gone g z l in let p = a.passed in omega arith
            older g q l (equal z) = v.old all a.machine.stored a.counted g (omega arith) q
            older g q l (above z) = v.old all a.machine.stored a.counted g (omega arith) q

    -- record t is still of the run
    pub released_here : t < head → {x : Record} {slot : ℕ} → slot ≡ slot_of ring t → x ≡ record_in room slot → i ≤ x.cell.row + c.b
        → ReleaseDone c i room latest ring tail head list₀ listed₀ list (record { tail = t; listed = n })
    released_here h {x} {slot} es ex l =
        done (omega arith) (λ k all cells a g q w.
        let e = ap (λ (r : Record). r.cell.row) (read_is all a.machine.stored a.counted h x slot es ex) in
        let o = rows_sorted all a.sorted t g q w in
        omega arith)

    -- no record is left
    pub released_all : head ≤ t → ReleaseDone c i room latest ring tail head list₀ listed₀ list (record { tail = head; listed = n })
    released_all h =
        let e : head ≡ t = omega (arith, v.to) in
        subst⁻¹ (λ (r : ℕ). ReleaseDone c i room latest ring tail head list₀ listed₀ list (record { tail = r; listed = n })) e
        (done v.to (λ k all cells a g q w. (let e = a.counted in absurd (omega arith))))

    -- record t is old, and is listed or not
    pub releasing_next : t < head → {x : Record} {slot : ℕ} → slot ≡ slot_of ring t → x ≡ record_in room slot → x.cell.row + c.b < i
        → {list' : List ℕ} {n' : ℕ} → n' ≡ listed_count (passes latest t x c) n → list' ≡ listed_room (passes latest t x c) c.k x list n
        → Releasing c i room latest ring tail head list₀ listed₀ (t + 1) list' n'
    unfolding listed_count
    releasing_next h {x} {slot} es ex l {list'} {n'} en el =
        let f = v.from in
        record {
          from = omega arith;
          to = omega arith;
          few = count_few (passes latest t x c) en;
          size = ap length el ∙ room_length (passes latest t x c) c.k x list n ∙ v.size;
          old = λ all r e g q w. older all r e g q w (three g t);
          entered = λ k all cells a w. more k all cells a (v.entered k all cells a w);
        }
      where
        count_few : (pass : Bool) → n' ≡ listed_count pass n → n' ≤ t + 1
        count_few true e = let w = v.few in omega arith
        count_few false e = let w = v.few in omega arith

        older : (all : List Record) → InRoom all room ring tail → length all ≡ head → (g : ℕ) → tail ≤ g → g < t + 1 → Three g t
            → (nth all g).cell.row + c.b < i
        older all r e g q w (below z) = v.old all r e g q z
        older all r e g q w (equal z) = let d = ap (λ (y : Record). y.cell.row) (read_is all r e h x slot es ex) in rw z (omega arith)
        older all r e g q w (above z) = absurd (omega arith)

        more : (k : ℕ) (all : List Record) (cells : List Cell) → ReleaseAsks c i k all cells room latest ring tail head → ListedTo c cells (take t all) list n
            → ListedTo c cells (take (t + 1) all) list' n'
        more k all cells a w =
            let d : x ≡ nth all t = read_is all a.machine.stored a.counted h x slot es ex in
            let cn = a.counted in
            let here : t < length all = omega arith in
            let dr = ap (λ (y : Record). y.cell.row) d in
            let p : passes latest t x c ≡ is_listed c cells x =
            subst⁻¹ (λ (y : Record). passes latest t y c ≡ is_listed c cells y) d
            (passes_listed c i k all cells room latest ring tail head t a v.from here (omega arith)) in
            let sm = a.small t here in
            let dc = ap (λ (y : Record). y.cell.column) d in
            let one = one_more c cells (take t all) list n x w s.some_base (omega (arith, sm.0)) (omega (arith, sm.1)) (passes latest t x c) p in
            let e : take (t + 1) all ≡ take t all ++ (x ∷ []) = ap (λ (q : ℕ). take q all) (add-one t) ∙ take-suc all t nothing here
            ∙ ap (λ (y : Record). take t all ++ (y ∷ [])) (sym d) in
            subst⁻¹ (λ (r : List Record). ListedTo c cells r list' n') e
            (subst⁻¹ (λ (l : List ℕ). ListedTo c cells (take t all ++ (x ∷ [])) l n') el
            (subst⁻¹ (λ (q : ℕ). ListedTo c cells (take t all ++ (x ∷ [])) (listed_room (passes latest t x c) c.k x list n) q) en one))
