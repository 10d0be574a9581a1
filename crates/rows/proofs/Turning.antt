-- A row turn by turn: from match to next match the sweep has one record more, and columns with no match add nothing. Assumes nothing.
use Rattle.std.proofs.Common.{◌≡◌, ℕ, zero, suc, ◌+◌, ◌-◌, ◌^◌, ◌<◌, ◌≤◌, Bool, true, false, List, [], ◌∷◌, ◌++◌, length, get_or, sym, refl, ap, ◌∙◌, subst, le_refl, arith}
use native.Mathlib.Decide.{le_ind}
use Rattle.rules.specs.declared.Cell.{Cell}
use Rattle.rules.specs.declared.Record.{Record}
use Rattle.rules.specs.Matches.{cell}
use Rattle.rules.specs.Records.{record_of}
use Rattle.rules.proofs.Tests.{Three, below, equal, above, three}
use Rattle.rules.proofs.Starts.{record_cell}
use Rattle.rules.proofs.Sweeps.{swept_to, swept_hit, swept_miss}
use Rattle.matches.specs.Walks.{StepsSafe, NextMatch, none_left, next_is, RowWalk}
use Rattle.predecessors.specs.declared.ring.Ring.{Ring}
use Rattle.predecessors.specs.Numbers.{nth}
use Rattle.predecessors.specs.Index.{Nearest, has_near, Ready}
use Rattle.predecessors.proofs.Steps.{mem_nth}
use Rattle.predecessors.proofs.Swept.{Place, swept_place, swept_sorted, swept_before, swept_light}
use Rattle.rows.specs.Machine.{Machine, Light, AddSafe, Added}
use Rattle.rows.specs.Rows.{Late, RowState, RowFits, RowSafe, RowDone}
use Rattle.rows.proofs.Adding.{nth_old, nth_new, length_snoc}

-- after a match in column j comes what stands at its index, j - 1
follow : (hit : Cell → Bool) (i columns start : ℕ) (nexts : List ℕ) → RowWalk hit i columns start nexts → (j : ℕ) → (j ≡ 0 → ⊥) → hit (cell i j) ≡ true
    → NextMatch hit i columns j (get_or nexts (j - 1) 0)
follow hit i columns start nexts w zero nz t = absurd (nz refl)
follow hit i columns start nexts w (suc j) nz t =
    let e : suc j - 1 ≡ j = omega arith in
    rw e (w.follows j t)

module _ (b : ℕ) (hit : Cell → Bool) (columns k : ℕ) where
  -- columns with no match add nothing
  pub swept_over : (j p : ℕ) → j ≤ p → ((q : ℕ) → j < q → q ≤ p → hit (cell (suc k) q) ≡ false) → swept_to b hit columns k p ≡ swept_to b hit columns k j
  swept_over j p h f =
      le_ind (λ (m : ℕ). ((q : ℕ) → j < q → q ≤ m → hit (cell (suc k) q) ≡ false) → swept_to b hit columns k m ≡ swept_to b hit columns k j)
      (λ _. refl) (λ m l ih g. swept_miss b hit columns k m (g (suc m) (omega arith) (omega arith)) ∙ ih (λ q a c. g q a (omega arith))) p h f

  swept_grows : (j : ℕ) → length (swept_to b hit columns k j) ≤ length (swept_to b hit columns k (suc j))
  swept_grows j = go (hit (cell (suc k) (suc j))) refl
    where
      go : (t : Bool) → hit (cell (suc k) (suc j)) ≡ t → length (swept_to b hit columns k j) ≤ length (swept_to b hit columns k (suc j))
      go true e = let l = ap length (swept_hit b hit columns k j e) in
          let s = length_snoc (swept_to b hit columns k j) (record_of b (swept_to b hit columns k j) (cell (suc k) (suc j))) in omega arith
      go false e = let l = ap length (swept_miss b hit columns k j e) in omega arith

  pub swept_to_lem : (j p : ℕ) → j ≤ p → length (swept_to b hit columns k j) ≤ length (swept_to b hit columns k p)
  swept_to_lem j p h =
      le_ind (λ (m : ℕ). length (swept_to b hit columns k j) ≤ length (swept_to b hit columns k m)) (le_refl _)
      (λ m _ e. (let g = swept_grows m in omega arith)) p h

  -- the next match adds its record
  pub next_more : (column j : ℕ) → column < j → hit (cell (suc k) j) ≡ true → ((q : ℕ) → column < q → q < j → hit (cell (suc k) q) ≡ false)
      → swept_to b hit columns k j ≡ swept_to b hit columns k column ++ (record_of b (swept_to b hit columns k column) (cell (suc k) j) ∷ [])
  next_more column zero l t f = absurd (omega arith)
  next_more column (suc j) l t f =
      swept_hit b hit columns k j t
      ∙ ap (λ (all : List Record). all ++ (record_of b all (cell (suc k) (suc j)) ∷ [])) (swept_over column j (omega arith) (λ q a c. f q a (omega arith)))

  module _ (room latest : List ℕ) (ring : Ring) (tail head near column from j : ℕ) (v : RowState b hit columns k room latest ring tail head near column from j)
      (w : RowFits b hit columns k ring tail) where
    abbrev all : List Record
    all = swept_to b hit columns k column

    -- what the search for the next match's predecessor asks
    pub row_ready : column < j → Ready b (suc k) j all room latest ring tail near column from
    row_ready l =
        record {
          known = swept_before b hit columns k column j l;
          sorted = swept_sorted b hit columns k column;
          stored = v.machine.stored;
          columns = v.machine.columns;
          gone = v.machine.gone;
          kept = v.machine.kept;
          nearest = v.nearest;
          late = v.late;
        }

    light : Light all
    light x m =
        let p = swept_place b hit columns k column x m in
        let u = swept_light b hit columns k column x m in
        let t = w.tall in
        let n = w.narrow in
        let i = v.inside in
        go x p u (three x.cell.row (suc k))
      where
        go : (x : Record) → Place b hit columns k column x.cell → x.weight ≤ x.cell.row + x.cell.column → Three x.cell.row (suc k)
            → x.weight + 1 < 2 ^ 32
        go x p u (below z) = let c = p.low (omega arith) in let t = w.tall in let n = w.narrow in omega arith
        go x p u (equal z) = let c = p.own z in let t = w.tall in let n = w.narrow in let i = v.inside in omega arith
        go x p u (above z) = let c = p.row_until in absurd (omega arith)

    module _ (room' latest' : List ℕ) (nexts : List ℕ) (start : ℕ) (nz : j ≡ 0 → ⊥) (lists : RowWalk hit (suc k) columns start nexts)
        (d : Added b (suc k) j room latest ring tail head near column from room' latest') where
      module _ (l : column < j) (c : j ≤ columns) (t : hit (cell (suc k) j) ≡ true) (f : (q : ℕ) → column < q → q < j → hit (cell (suc k) q) ≡ false) where
        abbrev x : Record
        x = record_of b all (cell (suc k) j)

        more_is : swept_to b hit columns k j ≡ all ++ (x ∷ [])
        more_is = next_more column j l t f

        count_more : length (swept_to b hit columns k j) ≡ head + 1
        count_more = ap length more_is ∙ length_snoc all x ∙ ap (λ (n : ℕ). n + 1) v.counted

        machine_more : Machine b (suc k) (swept_to b hit columns k j) room' latest' ring tail
        machine_more =
            let e = v.counted in
            let o = v.machine.order in
            let g = swept_to_lem j columns c in
            let n = count_more in
            let r = w.room in
            rw more_is (d.added all (row_ready l) e (omega arith) (omega arith) light)

        x_row : x.cell.row ≡ suc k
        x_row = ap (λ (y : Cell). y.row) (record_cell b all (cell (suc k) j))

        x_column : x.cell.column ≡ j
        x_column = ap (λ (y : Cell). y.column) (record_cell b all (cell (suc k) j))

        at_new : nth (swept_to b hit columns k j) head ≡ x
        at_new = ap (λ (r : List Record). nth r head) more_is ∙ ap (nth (all ++ (x ∷ []))) (sym v.counted) ∙ nth_new all x

        at_old : (g : ℕ) → g < head → nth (swept_to b hit columns k j) g ≡ nth all g
        at_old g h = let e = v.counted in ap (λ (r : List Record). nth r g) more_is ∙ nth_old all x g (omega arith)

        nearest_more : Nearest (suc k) (swept_to b hit columns k j) (head + 1) j
        nearest_more =
            let n = count_more in
            let e : head + 1 - 1 ≡ head = omega arith in
            let a : nth (swept_to b hit columns k j) (head + 1 - 1) ≡ x = ap (nth (swept_to b hit columns k j)) e ∙ at_new in
            has_near (omega arith) (omega arith) (ap (λ (r : Record). r.cell.row) a ∙ x_row) (ap (λ (r : Record). r.cell.column) a ∙ x_column)
            (λ g h q. (swept_place b hit columns k j (nth (swept_to b hit columns k j) g) (mem_nth (swept_to b hit columns k j) g h)).own q)

        late_more : Late (suc k) (swept_to b hit columns k j) from
        late_more g h fg lg lh r = go (three g head) (three h head)
          where
            go : Three g head → Three h head → (nth (swept_to b hit columns k j) h).cell.row ≤ (nth (swept_to b hit columns k j) g).cell.row
            go (below p) (below q) =
                let e = v.counted in
                let eg = ap (λ (r : Record). r.cell.row) (at_old g p) in
                let eh = ap (λ (r : Record). r.cell.row) (at_old h q) in
                let u = v.late g h fg (omega arith) (omega arith) (omega arith) in
                omega arith
            go (equal p) q = let a = ap (λ (t : ℕ). (nth (swept_to b hit columns k j) t).cell.row) p ∙ ap (λ (r : Record). r.cell.row) at_new
                ∙ x_row in omega arith
            go (above p) q = absurd (let n = count_more in omega arith)
            go (below p) (equal q) = absurd
                (let a = ap (λ (t : ℕ). (nth (swept_to b hit columns k j) t).cell.row) q ∙ ap (λ (r : Record). r.cell.row) at_new ∙ x_row in omega arith)
            go (below p) (above q) = absurd (let n = count_more in omega arith)

        turn : RowState b hit columns k room' latest' ring tail (head + 1) (head + 1) j from (get_or nexts (j - 1) 0)
        turn = record {
          machine = machine_more;
          counted = count_more;
          nearest = nearest_more;
          late = late_more;
          leads = follow hit (suc k) columns start nexts lists j nz t;
          inside = c;
        }

      pub row_turn : RowState b hit columns k room' latest' ring tail (head + 1) (head + 1) j from (get_or nexts (j - 1) 0)
      row_turn = go v.leads
        where
          go : NextMatch hit (suc k) columns column j → RowState b hit columns k room' latest' ring tail (head + 1) (head + 1) j from (get_or nexts (j - 1) 0)
          go (none_left e f) = absurd (nz e)
          go (next_is l c t f) = turn l c t f

    -- no match is left
    pub row_over : j ≡ 0 → swept_to b hit columns k columns ≡ all
    row_over e = go v.leads
      where
        go : NextMatch hit (suc k) columns column j → swept_to b hit columns k columns ≡ all
        go (none_left _ f) = swept_over column columns v.inside f
        go (next_is l c t f) = absurd (omega arith)

-- the loop's invariant
pub record RowInv (b i : ℕ) (room₀ latest₀ nexts : List ℕ) (ring : Ring) (tail head₀ from start : ℕ) (room latest : List ℕ)
    (head near column j : ℕ) : Type 0 where
  pub long : length room ≡ length room₀
  pub wide : length latest ≡ length latest₀
  pub more : head₀ ≤ head
  pub few : head ≤ head₀ + column
  pub in_column : column < length latest₀
  pub in_j : j < length latest₀
  pub ahead : 1 ≤ j → column < j
  pub state : (hit : Cell → Bool) (columns k : ℕ) → i ≡ suc k → RowWalk hit (suc k) columns start nexts → RowFits b hit columns k ring tail
      → RowState b hit columns k room₀ latest₀ ring tail head₀ 0 0 from start → RowState b hit columns k room latest ring tail head near column from j

module _ {b i : ℕ} {room₀ latest₀ nexts : List ℕ} {ring : Ring} {tail head₀ from start : ℕ} (s : RowSafe room₀ latest₀ nexts ring head₀ start i) where
  pub row_start : RowInv b i room₀ latest₀ nexts ring tail head₀ from start room₀ latest₀ head₀ 0 0 start
  row_start =
      let g = s.begin in
      record {
        long = refl;
        wide = refl;
        more = omega arith;
        few = omega arith;
        in_column = omega arith;
        in_j = omega arith;
        ahead = λ h. h;
        state = λ hit columns k e l f v. v;
      }

  module _ {room latest : List ℕ} {head near column j : ℕ} (v : RowInv b i room₀ latest₀ nexts ring tail head₀ from start room latest head near column j) where
    pub row_add : (j ≡ 0 → ⊥) → AddSafe room latest ring head i j
    row_add nz =
        let r = s.room_for in
        let n = s.narrow in
        let f = s.few in
        let vl = v.long in
        let vw = v.wide in
        let vf = v.few in
        let vc = v.in_column in
        let vj = v.in_j in
        record { fits = s.fits; room_for = omega arith; inside = omega arith; narrow = omega arith; tall = s.tall; few = omega arith }

    pub row_next : {room' latest' : List ℕ} → (j ≡ 0 → ⊥) → length room' ≡ length room → length latest' ≡ length latest
        → Added b i j room latest ring tail head near column from room' latest'
        → RowInv b i room₀ latest₀ nexts ring tail head₀ from start room' latest' (head + 1) (head + 1) j (get_or nexts (j - 1) 0)
    row_next {room'} {latest'} nz el ew d =
        let vl = v.long in
        let vw = v.wide in
        let vm = v.more in
        let vf = v.few in
        let a = v.ahead (omega arith) in
        record {
          long = omega arith;
          wide = omega arith;
          more = omega arith;
          few = omega arith;
          in_column = v.in_j;
          in_j = s.inside (j - 1);
          ahead = λ h. (let u = s.rising (j - 1) h in omega arith);
          state = λ hit columns k e l f w.
              row_turn b hit columns k room latest ring tail head near column from j (v.state hit columns k e l f w) f room' latest' nexts start nz l
              (subst (λ (t : ℕ). Added b t j room latest ring tail head near column from room' latest') e d);
        }

    pub row_end : j ≡ 0 → RowDone b i room₀ latest₀ nexts ring tail head₀ from start room latest head
    row_end e =
        let n = s.narrow in
        let vf = v.few in
        let vc = v.in_column in
        record {
          few = (v.more, omega arith);
          done = λ hit columns k ei l f w. finish hit columns k ei l f w;
        }
      where
        finish : (hit : Cell → Bool) (columns k : ℕ) → i ≡ suc k → RowWalk hit (suc k) columns start nexts → RowFits b hit columns k ring tail
            → RowState b hit columns k room₀ latest₀ ring tail head₀ 0 0 from start
            → Machine b (suc k) (swept_to b hit columns k columns) room latest ring tail × (length (swept_to b hit columns k columns) ≡ head)
        finish hit columns k ei l f w =
            let u = v.state hit columns k ei l f w in
            let o = row_over b hit columns k room latest ring tail head near column from j u f e in
            rw o (u.machine, u.counted)

-- the row's iterator asks no more than storing a row does
pub row_steps : {room latest nexts : List ℕ} {ring : Ring} {head start i : ℕ} → RowSafe room latest nexts ring head start i
    → StepsSafe nexts × (start ≤ length nexts)
row_steps s =
    (record { inside = λ q. omega (arith, s.inside q, s.known); rising = s.rising }, omega (arith, s.begin, s.known))
