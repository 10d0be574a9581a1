-- The sweep from row to row: release keeps the state and lists what leaves, the row is stored behind it, and so to the last row. Assumes nothing.
use mathlib.Core.Path.{◌≡◌, refl, sym, ap, subst, subst⁻¹, ◌∙◌}
use mathlib.Core.Logic.{◌≢◌}
use mathlib.Core.Bool.{Bool, true, false}
use mathlib.Core.List.{List, [], map, Memᴰ}
use Prim.Native.Nat.{ℕ, suc, ◌+◌, ◌-◌, ◌*◌, ◌^◌, ◌≤◌, ◌<◌}
use native.Mathlib.Omega.{arith}
use native.Mathlib.Numerals.{add-one, lt_of_le_of_ne}
use borrow.Author.Tests.{eq-eqb, ne_eqb, lt-ltb}
use lib.Dec.{T, eqb, eqb→eq}
use lib.ListN.{length, get_or, take}
use Rattle.rules.specs.declared.Settings.{Settings}
use Rattle.rules.specs.declared.Cell.{Cell}
use Rattle.rules.specs.declared.Record.{Record}
use Rattle.rules.specs.Lists.{keep, laid}
use Rattle.rules.specs.Matches.{cell, matches_to}
use Rattle.rules.specs.Rooms.{largest_run}
use Rattle.rules.proofs.Tests.{Three, below, equal, above, three}
use Rattle.rules.proofs.Weights.{sweep_cells}
use Rattle.rules.proofs.MatchList.{Inside, matches_in, matches_has}
use Rattle.rules.proofs.Sweeps.{swept_to, swept_start, swept_row, swept_all}
use Rattle.matches.specs.Walks.{NextMatch, none_left, next_is, RowWalk}
use Rattle.predecessors.specs.declared.ring.Ring.{Ring}
use Rattle.predecessors.specs.Numbers.{nth}
use Rattle.predecessors.specs.Index.{no_near}
use Rattle.predecessors.proofs.Steps.{mem_nth, nth_mem}
use Rattle.predecessors.proofs.Swept.{swept_place, swept_sorted}
use Rattle.rows.specs.Machine.{Machine}
use Rattle.rows.specs.Rows.{Late, RowState, RowFits, RowSafe, RowDone}
use Rattle.listing.specs.declared.Released.{Released}
use Rattle.listing.specs.Leaving.{ListedTo, ReleaseSafe, ReleaseAsks, ReleaseDone}
use Rattle.sweep.specs.Latest.{NoneLatest}
use Rattle.sweep.specs.Sweeping.{later_from, leaves_at, SweepSafe, Describes, SweepDone}
use Rattle.sweep.proofs.Parts.{Parted, row_parted, old_row, row_room, front_same}

-- after k rows: the state, how many records there are, and the listed ones of those released
pub record SweepState (c : Settings) (hit : Cell → Bool) (columns rows k : ℕ) (room latest list : List ℕ) (ring : Ring)
    (tail head from listed : ℕ) : Type 0 where
  pub machine : Machine c.b k (swept_to c.b hit columns k 0) room latest ring tail
  pub counted : length (swept_to c.b hit columns k 0) ≡ head
  pub late : Late (suc k) (swept_to c.b hit columns k 0) from
  pub entered : ListedTo c (matches_to hit columns rows) (take tail (swept_to c.b hit columns k 0)) list listed

module _ (c : Settings) (hit : Cell → Bool) (columns rows : ℕ) (ring : Ring) (narrow : columns ≤ 16384) (tall : rows ≤ 16384) (short : c.k ≤ 31) where
  abbrev swept : ℕ → List Record
  swept k = swept_to c.b hit columns k 0

  abbrev cells : List Cell
  cells = matches_to hit columns rows

  pub sweep_begins : (room latest list : List ℕ) → NoneLatest latest → SweepState c hit columns rows 0 room latest list ring 0 0 0 0
  unfolding keep laid
  sweep_begins room latest list none =
      record {
        machine = rw (swept_start c.b hit columns) (
            record {
              stored = λ g h l. absurd (omega arith);
              columns = record {
                within = λ q. (let e = none.empty q in omega arith);
                column = λ q h. absurd (let e = none.empty q in omega arith);
                newest = λ g l. absurd (omega arith);
              };
              gone = λ g h l. absurd (omega arith);
              kept = λ g h l. absurd (omega arith);
              order = omega arith;
              fits = omega arith;
            });
        counted = rw (swept_start c.b hit columns);
        late = rw (swept_start c.b hit columns) (λ g h a d e f. absurd (omega arith));
        entered = record { counted = refl; entries = λ h. refl };
      }

  -- the records' cells are the matches of the rows so far
  pub cells_of : (k : ℕ) → map (λ (x : Record). x.cell) (swept k) ≡ matches_to hit columns k
  cells_of k = ap (map (λ (x : Record). x.cell)) (swept_all c.b hit columns k) ∙ sweep_cells c.b hit (matches_to hit columns k) []

  -- a record's cell is one of the matches of the rows so far
  is_match_to : (k g : ℕ) → g < length (swept k) → Memᴰ (nth (swept k) g).cell (matches_to hit columns k)
  is_match_to k g l = subst (λ (q : List Cell). Memᴰ (nth (swept k) g).cell q) (cells_of k) (mathlib.Core.List.Memᴰ.map (λ (r : Record). r.cell) (mem_nth (swept k) g l))

  inside_more : (k n : ℕ) (y : Cell) → y.row ≤ n → Inside hit columns k y → Inside hit columns n y
  inside_more k n y h i = record { is_hit = i.is_hit; row_from = i.row_from; row_until = h; column_from = i.column_from; column_until = i.column_until }

  -- what a release asks, once all matches of rows before i are among the records
  pub release_asks : (k i : ℕ) (room latest : List ℕ) (tail head : ℕ) → Machine c.b k (swept k) room latest ring tail → length (swept k) ≡ head
      → k ≤ rows → k ≤ i → ((y : Cell) → y.row ≤ rows → y.row < i → y.row ≤ k) → ReleaseAsks c i k (swept k) cells room latest ring tail head
  release_asks k i room latest tail head machine counted kr ki near =
      record {
        machine = machine;
        sorted = swept_sorted c.b hit columns k 0;
        counted = counted;
        passed = ki;
        rows = λ g l. old_row c.b hit columns k g l;
        small = λ g l. fits_32 g l;
        known = λ y m h. by_number y (matches_in hit columns rows y m) h;
        matches = λ g l. is_a_match g l;
      }
    where
      fits_32 : (g : ℕ) → g < length (swept k) → ((nth (swept k) g).cell.row + c.k ≤ 2 ^ 32) × ((nth (swept k) g).cell.column + c.k ≤ 2 ^ 32)
      fits_32 g l =
          let o = old_row c.b hit columns k g l in
          let p = (swept_place c.b hit columns k 0 (nth (swept k) g) (mem_nth (swept k) g l)).low o in
          (omega arith, omega arith)

      by_number : (y : Cell) → Inside hit columns rows y → y.row < i → (g : ℕ) × (g < length (swept k)) × (y ≡ (nth (swept k) g).cell)
      by_number y n h =
          let m : Memᴰ y (matches_to hit columns k) = matches_has hit columns k y (inside_more rows k y (near y n.row_until h) n) in
          let (x, mx, ex) = mathlib.Core.List.Memᴰ.of_map (λ (r : Record). r.cell) (swept k) (subst⁻¹ (λ (l : List Cell). Memᴰ y l) (cells_of k) m) in
          let (g, l, eg) = nth_mem x (swept k) mx in
          (g, l, sym ex ∙ ap (λ (r : Record). r.cell) eg)

      is_a_match : (g : ℕ) → g < length (swept k) → Memᴰ (nth (swept k) g).cell cells
      is_a_match g l =
          let n = matches_in hit columns k (nth (swept k) g).cell (is_match_to k g l) in
          matches_has hit columns rows (nth (swept k) g).cell (inside_more k rows (nth (swept k) g).cell (omega (arith, n.row_until)) n)

  -- the records from number tail on are those of rows from k - b on, and where row k - b has none, from k + 1 - b on
  stays : (k : ℕ) {room latest : List ℕ} {tail : ℕ} → Machine c.b k (swept k) room latest ring tail
      → ((g : ℕ) → g < length (swept k) → (nth (swept k) g).cell.row + c.b ≢ k) → Machine c.b (suc k) (swept k) room latest ring tail
  stays k m none =
      record {
        stored = m.stored;
        columns = m.columns;
        gone = λ g h l. omega (arith, m.gone g h l);
        kept = λ g h l. later (m.kept g h l) (none g l);
        order = m.order;
        fits = m.fits;
      }
    where
      later : {i n : ℕ} → i ≤ n → n ≢ i → suc i ≤ n
      later {i} {n} h e = lt_of_le_of_ne h (λ z. e (sym z))

  -- a row that begins in column 0 has no record
  row_none : (k p : ℕ) (nexts : List ℕ) → RowWalk hit (suc p) columns 0 nexts → (g : ℕ) → g < length (swept k) → (nth (swept k) g).cell.row ≢ suc p
  row_none k p nexts walk g l e = go walk.begins (matches_in hit columns k (nth (swept k) g).cell (is_match_to k g l))
    where
      go : NextMatch hit (suc p) columns 0 0 → Inside hit columns k (nth (swept k) g).cell → ⊥
      go (none_left z f) i =
          let y = (nth (swept k) g).cell in
          let miss : hit y ≡ false = subst (λ (n : ℕ). hit (cell n y.column) ≡ false) (sym e) (f y.column i.column_from i.column_until) in
          subst T miss i.is_hit
      go (next_is h t u f) i = absurd (omega arith)

  -- one row: what leaves it is released, then it is stored
  module _ (wide : largest_run c.b (matches_to hit columns rows) rows ≤ ring.size) (k : ℕ) (room latest list : List ℕ) (tail head from listed : ℕ)
      (v : SweepState c hit columns rows k room latest list ring tail head from listed) (h : k < rows) (list' : List ℕ) (tail' listed' : ℕ) (to : tail' ≤ head)
      (machine' : Machine c.b (suc k) (swept k) room latest ring tail') (entered' : ListedTo c cells (take tail' (swept k)) list' listed')
      (start : ℕ) (nexts : List ℕ) (walk : RowWalk hit (suc k) columns start nexts) where
    state : RowState c.b hit columns k room latest ring tail' head 0 0 from start
    state =
        record {
          machine = machine';
          counted = v.counted;
          nearest = no_near refl refl (λ g l e. (let o = old_row c.b hit columns k g l in omega arith));
          late = v.late;
          leads = walk.begins;
          inside = omega arith;
        }

    fits : RowFits c.b hit columns k ring tail'
    fits = record { room = row_room c.b hit columns rows ring wide k tail' h machine'.kept; tall = omega arith; narrow = narrow }

    module _ (room' latest' : List ℕ) (n : ℕ) (e : RowDone c.b (suc k) room latest nexts ring tail' head from start room' latest' n) where
      stored : Machine c.b (suc k) (swept_to c.b hit columns k columns) room' latest' ring tail' × (length (swept_to c.b hit columns k columns) ≡ n)
      stored = e.done hit columns k refl walk fits state

      part : Parted (swept k) (swept_to c.b hit columns k columns) (suc k)
      part = row_parted c.b hit columns k columns

      late_on : Three n head → Late (suc (suc k)) (swept_to c.b hit columns k columns) (later_from n head from)
      unfolding later_from
      late_on (equal q) = rw (eq-eqb n head q) (λ g u a lg lu ru.
          let f = stored.1 in
          let z = v.counted in
          let og : g < length (swept k) = omega arith in
          let ou : u < length (swept k) = omega arith in
          let eg = ap (λ (x : Record). x.cell.row) (part.same g og) in
          let eu = ap (λ (x : Record). x.cell.row) (part.same u ou) in
          let o = old_row c.b hit columns k u ou in
          let l = v.late g u a og ou (omega arith) in
          omega arith)
      late_on (below q) = absurd (let f = stored.1 in let z = v.counted in let g = part.grown in omega arith)
      late_on (above q) = rw (ne_eqb n head (λ z. omega arith)) (λ g u a lg lu ru.
          let z = v.counted in
          let f = part.fresh g (omega arith) lg in
          omega arith)

      pub sweep_turn : SweepState c hit columns rows (suc k) room' latest' list' ring tail' n (later_from n head from) listed'
      sweep_turn =
          let z = v.counted in
          let front : take tail' (swept_to c.b hit columns k columns) ≡ take tail' (swept k) =
          front_same (swept k) (swept_to c.b hit columns k columns) (suc k) part tail' (omega arith) in
          record {
            machine = rw (swept_row c.b hit columns k) stored.0;
            counted = rw (swept_row c.b hit columns k) stored.1;
            late = rw (swept_row c.b hit columns k) (late_on (three n head));
            entered = rw (swept_row c.b hit columns k, front) entered';
          }

-- ---- the loop

pub record SweepInv (firsts nexts room₀ latest₀ list₀ : List ℕ) (ring : Ring) (c : Settings) (room latest list : List ℕ)
    (tail head from listed k : ℕ) : Type 0 where
  pub long : length room ≡ length room₀
  pub wide : length latest ≡ length latest₀
  pub size : length list ≡ length list₀
  pub few : head ≤ k * 16384
  pub order : tail ≤ head
  pub entries : listed ≤ tail
  pub rows : k ≤ length firsts
  pub state : (hit : Cell → Bool) (columns : ℕ) → Describes hit columns firsts nexts c.b ring
      → SweepState c hit columns (length firsts) k room latest list ring tail head from listed

-- what leaves before row k + 1 has left: the run of that row is in the room, and what left is listed
pub record Left (firsts nexts : List ℕ) (ring : Ring) (c : Settings) (room latest list : List ℕ) (tail head from listed k : ℕ) (list' : List ℕ)
    (tail' listed' : ℕ) : Type 0 where
  pub to : tail' ≤ head
  pub few : listed' ≤ tail'
  pub size : length list' ≡ length list
  pub machine : (hit : Cell → Bool) (columns : ℕ) → Describes hit columns firsts nexts c.b ring
      → SweepState c hit columns (length firsts) k room latest list ring tail head from listed
      → Machine c.b (suc k) (swept_to c.b hit columns k 0) room latest ring tail'
  pub entered : (hit : Cell → Bool) (columns : ℕ) → Describes hit columns firsts nexts c.b ring
      → SweepState c hit columns (length firsts) k room latest list ring tail head from listed
      → ListedTo c (matches_to hit columns (length firsts)) (take tail' (swept_to c.b hit columns k 0)) list' listed'

-- where none leaves, row p - b begins in column 0, if there is such a row
none_leaves : (firsts : List ℕ) (b p : ℕ) → leaves_at firsts b p ≡ false → b < p → get_or firsts (p - b - 1) 0 ≡ 0
unfolding leaves_at
none_leaves firsts b p e h = go (eqb (get_or firsts (p - b - 1) 0) 0) refl
  where
    go : (t : Bool) → eqb (get_or firsts (p - b - 1) 0) 0 ≡ t → get_or firsts (p - b - 1) 0 ≡ 0
    go true q = eqb→eq (get_or firsts (p - b - 1) 0) 0 (subst T (sym q) tt)
    go false q =
        let z : ◌≡◌ {A = Bool} true false = rw (lt-ltb b p h, q) at e in
        absurd (subst T z tt)

module _ {firsts nexts room₀ latest₀ list₀ : List ℕ} {ring : Ring} {c : Settings} (s : SweepSafe firsts nexts room₀ ring c) (none : NoneLatest latest₀) where
  pub sweep_start : SweepInv firsts nexts room₀ latest₀ list₀ ring c room₀ latest₀ list₀ 0 0 0 0 0
  sweep_start =
      record {
        long = refl;
        wide = refl;
        size = refl;
        few = omega arith;
        order = omega arith;
        entries = omega arith;
        rows = omega arith;
        state = λ hit columns a. sweep_begins c hit columns (length firsts) ring a.described.narrow s.walks.few_rows
            s.few_bases room₀ latest₀ list₀ none;
      }

  module _ {room latest list : List ℕ} {tail head from listed k : ℕ}
      (v : SweepInv firsts nexts room₀ latest₀ list₀ ring c room latest list tail head from listed k) where
    pub sweep_end : length firsts ≤ k → SweepDone firsts nexts ring c room latest list (record { tail = tail; head = head; listed = listed })
    sweep_end h =
        let r = v.rows in
        let e : k ≡ length firsts = omega arith in
        let f = v.few in
        record {
          order = v.order;
          few = rw (← e) f;
          entries = v.entries;
          machine = λ hit columns a. subst (λ (n : ℕ). Machine c.b n (swept_to c.b hit columns n 0) room latest ring tail) e
              (v.state hit columns a).machine;
          counted = λ hit columns a. subst (λ (n : ℕ). length (swept_to c.b hit columns n 0) ≡ head) e (v.state hit columns a).counted;
          entered = λ hit columns a.
              subst (λ (n : ℕ). ListedTo c (matches_to hit columns (length firsts)) (take tail (swept_to c.b hit columns n 0)) list listed) e
              (v.state hit columns a).entered;
        }

    pub release_safe : k < length firsts → ReleaseSafe room ring tail head c listed
    release_safe h =
        let f = v.few in
        let t = s.walks.few_rows in
        let rf = s.room_for in
        let l = v.long in
        record { fits = s.fits; room_for = omega arith; few = omega arith; order = v.order; entries = v.entries; some_base = s.some_base }

    pub row_safe : k < length firsts → {start : ℕ} → start ≡ get_or firsts k 0 → RowSafe room latest nexts ring head start (k + 1)
    row_safe h es =
        let rf = s.room_for in
        let kn = s.wide in
        let t = s.walks.few_rows in
        let vl = v.long in
        let vw = v.wide in
        let nw = none.wide in
        let vf = v.few in
        let st = s.walks.starts k in
        record {
          fits = s.fits;
          room_for = omega arith;
          narrow = omega arith;
          known = omega arith;
          tall = omega arith;
          few = omega arith;
          begin = omega arith;
          inside = λ q. (let i = s.walks.nexts_safe.inside q in omega arith);
          rising = s.walks.nexts_safe.rising;
        }

    -- a release does it
    pub left_released : k < length firsts → {list' : List ℕ} {r : Released} → ReleaseDone c (k + 1) room latest ring tail head list listed list' r
        → Left firsts nexts ring c room latest list tail head from listed k list' r.tail r.listed
    left_released h {list'} {r} d₀ =
        let d = subst (λ (t : ℕ). ReleaseDone c t room latest ring tail head list listed list' r) (add-one k) d₀ in
        record {
          to = d.to;
          few = d.few;
          size = d.size;
          machine = λ hit columns a w. d.released k (swept_to c.b hit columns k 0) (matches_to hit columns (length firsts)) (asks hit columns a w);
          entered = λ hit columns a w. d.entered k (swept_to c.b hit columns k 0) (matches_to hit columns (length firsts))
              (asks hit columns a w) w.entered;
        }
      where
        asks : (hit : Cell → Bool) (columns : ℕ) → Describes hit columns firsts nexts c.b ring
            → SweepState c hit columns (length firsts) k room latest list ring tail head from listed
            → ReleaseAsks c (suc k) k (swept_to c.b hit columns k 0) (matches_to hit columns (length firsts)) room latest ring tail head
        asks hit columns a w =
            release_asks c hit columns (length firsts) ring a.described.narrow s.walks.few_rows s.few_bases k (suc k) room latest tail head
            w.machine w.counted (omega arith) (omega arith) (λ y l b. omega arith)

    -- where no row leaves, nothing need be done
    pub left_none : k < length firsts → {b : ℕ} → b ≡ c.b → leaves_at firsts b k ≡ false
        → Left firsts nexts ring c room latest list tail head from listed k list tail listed
    left_none h {b} eb e₀ =
        let e = subst (λ (n : ℕ). leaves_at firsts n k ≡ false) eb e₀ in
        record {
          to = v.order;
          few = v.entries;
          size = refl;
          machine = λ hit columns a w.
              stays c hit columns (length firsts) ring a.described.narrow s.walks.few_rows s.few_bases k w.machine (none_there e hit columns a);
          entered = λ hit columns a w. w.entered;
        }
      where
        none_there : leaves_at firsts c.b k ≡ false → (hit : Cell → Bool) (columns : ℕ) → Describes hit columns firsts nexts c.b ring
            → (g : ℕ) → g < length (swept_to c.b hit columns k 0) → (nth (swept_to c.b hit columns k 0) g).cell.row + c.b ≢ k
        none_there e hit columns a g l z =
            let y = (nth (swept_to c.b hit columns k 0) g).cell in
            let one = (matches_in hit columns k y
            (is_match_to c hit columns (length firsts) ring a.described.narrow s.walks.few_rows s.few_bases k g l)).row_from in
            let p = k - c.b - 1 in
            let there : y.row ≡ suc p = omega arith in
            let begins = none_leaves firsts c.b k e (omega arith) in
            let walk = subst (λ (x : ℕ). RowWalk hit (suc p) columns x nexts) begins (a.described.rows p (omega arith)) in
            row_none c hit columns (length firsts) ring a.described.narrow s.walks.few_rows s.few_bases k p nexts walk g l there

    pub sweep_next : k < length firsts → {start : ℕ} → start ≡ get_or firsts k 0 → {list' : List ℕ} {tail' listed' : ℕ}
        → Left firsts nexts ring c room latest list tail head from listed k list' tail' listed'
        → {room' latest' : List ℕ} {b n f : ℕ} → length room' ≡ length room → length latest' ≡ length latest
        → b ≡ c.b → RowDone b (k + 1) room latest nexts ring tail' head from start room' latest' n → f ≡ later_from n head from
        → SweepInv firsts nexts room₀ latest₀ list₀ ring c room' latest' list' tail' n f listed' (k + 1)
    sweep_next h {start} es {list'} {tail'} {listed'} d {room'} {latest'} {n = n} el ew eb e₀ ef₀ =
        let e = subst (λ (b : ℕ). RowDone b (k + 1) room latest nexts ring tail' head from start room' latest' n) eb e₀ in
        let vl = v.long in
        let vw = v.wide in
        let vz = v.size in
        let vf = v.few in
        let ds = d.size in
        let dt = d.to in
        let ef = e.few in
        record {
          long = omega arith;
          wide = omega arith;
          size = omega arith;
          few = omega arith;
          order = omega arith;
          entries = d.few;
          rows = omega arith;
          state = λ hit columns a.
              let w = v.state hit columns a in
              rw (ef₀, add-one k)
              (sweep_turn c hit columns (length firsts) ring a.described.narrow s.walks.few_rows s.few_bases
              a.enough k room latest list tail head from listed w h list' tail' listed' dt
              (d.machine hit columns a w) (d.entered hit columns a w) start nexts
              (subst⁻¹ (λ (t : ℕ). RowWalk hit (suc k) columns t nexts) es (a.described.rows k h)) room' latest' n
              (subst (λ (t : ℕ). RowDone c.b t room latest nexts ring tail' head from start room' latest' n) (add-one k) e));
        }

pub later_same : (h head from : ℕ) → h ≡ head → from ≡ later_from h head from
unfolding later_from
later_same h head from e = rw (eq-eqb h head e)

pub later_new : (h head from : ℕ) → (h ≡ head → ⊥) → head ≡ later_from h head from
unfolding later_from
later_new h head from e = rw (ne_eqb h head e)
