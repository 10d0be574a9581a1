-- A state of the sweep fixes every number that it uses: the records in the room, and for each column the latest. Assumes nothing.
use Rattle.std.proofs.Common.{◌≡◌, ℕ, suc, ◌+◌, ◌-◌, ◌*◌, ◌<◌, ◌≤◌, Bool, List, length, get_or, sym, refl, ◌∙◌, subst, arith}
use Rattle.rules.specs.declared.Cell.{Cell}
use Rattle.rules.specs.declared.Record.{Record}
use Rattle.rules.proofs.Tests.{Three, below, equal, above, three}
use Rattle.matches.specs.Walks.{RowWalk}
use Rattle.predecessors.specs.declared.ring.Ring.{Ring}
use Rattle.predecessors.specs.Numbers.{slot_of, nth}
use Rattle.predecessors.specs.Index.{Columns}
use Rattle.rows.specs.Machine.{Machine}
use Rattle.rows.specs.Rows.{RowState, RowFits, RowDone}

-- no column's latest record comes after the other's
no_later : {all : List Record} {x y : List ℕ} → Columns all x → Columns all y → (q : ℕ) → get_or y q 0 ≤ get_or x q 0
no_later {all} {x} {y} f g q = go (three (get_or x q 0) (get_or y q 0))
  where
    go : Three (get_or x q 0) (get_or y q 0) → get_or y q 0 ≤ get_or x q 0
    go (equal e) = omega arith
    go (above h) = omega arith
    go (below h) =
        let last = get_or y q 0 - 1 in
        let w = g.within q in
        let new = f.newest last (omega arith) in
        let there : (nth all last).cell.column ≡ q = g.column q (omega arith) in
        absurd (omega (arith, subst (λ (c : ℕ). last < get_or x c 0) there new))

module _ {b i : ℕ} {all : List Record} {ring : Ring} {tail : ℕ} {room₁ latest₁ room₂ latest₂ : List ℕ} (m : Machine b i all room₁ latest₁ ring tail)
    (n : Machine b i all room₂ latest₂ ring tail) where
  latest_one : (q : ℕ) → get_or latest₁ q 0 ≡ get_or latest₂ q 0
  latest_one q = omega (arith, no_later m.columns n.columns q, no_later n.columns m.columns q)

  records_one : (g k : ℕ) → tail ≤ g → g < length all → k < 8 → get_or room₁ (8 * slot_of ring g + k) 0 ≡ get_or room₂ (8 * slot_of ring g + k) 0
  records_one g k h l o = (m.stored g h l).numbers k o ∙ sym ((n.stored g h l).numbers k o)

-- any two results of `rows::store_row` are equal in what they state: how many records there are, those in the room, and every column's latest
pub stored_one : {b k : ℕ} (hit : Cell → Bool) (columns : ℕ) {room latest nexts : List ℕ} {ring : Ring} {tail head from start : ℕ}
    {room₁ latest₁ room₂ latest₂ : List ℕ} {r s : ℕ} → RowWalk hit (suc k) columns start nexts → RowFits b hit columns k ring tail
    → RowState b hit columns k room latest ring tail head 0 0 from start
    → RowDone b (suc k) room latest nexts ring tail head from start room₁ latest₁ r
    → RowDone b (suc k) room latest nexts ring tail head from start room₂ latest₂ s
    → (r ≡ s) × ((q : ℕ) → get_or latest₁ q 0 ≡ get_or latest₂ q 0)
    × ((g n : ℕ) → tail ≤ g → g < r → n < 8 → get_or room₁ (8 * slot_of ring g + n) 0 ≡ get_or room₂ (8 * slot_of ring g + n) 0)
stored_one {k = k} hit columns w f v x y =
    let (m, c) = x.done hit columns k refl w f v in
    let (n, d) = y.done hit columns k refl w f v in
    (sym c ∙ d, latest_one m n, λ g o h l. records_one m n g o h (omega arith))
