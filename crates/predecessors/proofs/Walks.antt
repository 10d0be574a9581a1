-- Which records a walk over columns may pass over, and when it may end, by CR 3's theorem: what lies at or before another left extension in both
-- sequences weighs less. Assumes nothing.
use mathlib.Core.Path.{◌≡◌, refl, sym, ap, subst⁻¹}
use mathlib.Core.Logic.{◌⊎◌, inl, inr}
use mathlib.Core.Option.{Option, none, some}
use mathlib.Core.List.{List, Memᴰ}
use Prim.Native.Nat.{ℕ, ◌+◌, ◌-◌, ◌≤◌, ◌<◌}
use native.Mathlib.Omega.{arith}
use lib.Dec.{T}
use Rattle.rules.specs.declared.Cell.{Cell}
use Rattle.rules.specs.declared.Record.{Record}
use Rattle.rules.specs.Chains.{left_extension, Heaviest, LeftExtension}
use Rattle.rules.specs.Records.{beats, better, pick}
use Rattle.rules.proofs.Tests.{Three, below, equal, above, three}
use Rattle.rules.proofs.LeftExtensions.{same_cell_lem, Extends, extend_facts, facts_extend}
use Rattle.rules.proofs.Weights.{Sure, pick_sure, better_sure, chain_hit}
use Rattle.rules.proofs.Ties.{by_weight, by_column, by_row, is_beats, beats_trans, beats_irrefl, Under, better_new, better_old, pick_first}
use Rattle.rules.proofs.Farther.{overtaken, latest_row, nearest_column}
use Rattle.predecessors.specs.Index.{Single, Known}

-- ---- one that weighs less is not before, and stays so

heavy_beats : (x y : Record) → x.weight < y.weight → T (beats y x)
heavy_beats x y h = is_beats y x (by_weight h)

-- z weighs less than y, and y is not before what is picked: nor is z
under_light : (z y : Record) (o : Option Record) → z.weight < y.weight → Under y o → Under z o
under_light z y none h u = u
under_light z y (some p) h u = λ t. u (beats_trans y z p (heavy_beats z y h) t)

-- neither before the other: one record
even : (x y : Record) → ¬ T (beats x y) → ¬ T (beats y x) → x.cell ≡ y.cell
even x y f g = go (three x.weight y.weight) (three x.cell.column y.cell.column) (three x.cell.row y.cell.row)
  where
    go : Three x.weight y.weight → Three x.cell.column y.cell.column → Three x.cell.row y.cell.row → x.cell ≡ y.cell
    go (below h) p q = absurd (g (is_beats y x (by_weight h)))
    go (above h) p q = absurd (f (is_beats x y (by_weight h)))
    go (equal h) (below p) q = absurd (f (is_beats x y (by_column h p)))
    go (equal h) (above p) q = absurd (g (is_beats y x (by_column (sym h) p)))
    go (equal h) (equal p) (below q) = absurd (f (is_beats x y (by_row h p q)))
    go (equal h) (equal p) (above q) = absurd (g (is_beats y x (by_row (sym h) (sym p) q)))
    go (equal h) (equal p) (equal q) = same_cell_lem q p

module _ (b : ℕ) (c : Cell) (ws : List Record) where
  -- x is held and a left extension of c
  pub record Near (x : Record) : Type 0 where
    pub here : Memᴰ x ws
    pub left : Extends b x.cell c

  -- the walk has passed all columns above q; none at or below stop matters, and none of c's own row
  pub record Walk (q stop : ℕ) (o : Option Record) : Type 0 where
    pub from : Sure Near o
    pub own : (x : Record) → Near x → x.cell.row ≡ c.row → Under x o
    pub low : (x : Record) → Near x → x.cell.column ≤ stop → Under x o
    pub over : (x : Record) → Near x → q < x.cell.column → Under x o

  -- o is the best of all
  pub record Best (o : Option Record) : Type 0 where
    pub from : Sure Near o
    pub all : (x : Record) → Near x → Under x o

  near : (x : Record) → Memᴰ x ws → T (left_extension b x.cell c) → Near x
  near x m t = record { here = m; left = extend_facts b x.cell c t }

  -- the best of all is what the rule picks
  pub best_is : Single ws → (o : Option Record) → Best o → o ≡ pick b c none ws
  best_is one o h = go o (pick b c none ws) h.from h.all picked (λ x n. pick_first b c x ws none n.here (facts_extend b x.cell c n.left))
    where
      picked : Sure Near (pick b c none ws)
      picked = pick_sure b c Near ws none tt near

      go : (o p : Option Record) → Sure Near o → ((x : Record) → Near x → Under x o) → Sure Near p → ((x : Record) → Near x → Under x p) → o ≡ p
      go none none s f t g = refl
      go none (some y) s f t g = absurd (f y t)
      go (some x) none s f t g = absurd (g x s)
      go (some x) (some y) s f t g = ap some (one x y s.here t.here (even x y (g x s) (f y t)))

  module _ (w : Known b c ws) where
    -- a record that is near, as CR 3 speaks of it
    weighs : (x : Record) → Near x → Heaviest b w.hit x.cell x.weight
    weighs x n = w.heaviest x n.here

    extends : (x : Record) → Near x → LeftExtension b w.hit c x.cell
    extends x n = record { is_a_match = chain_hit (weighs x n).reached; extends = facts_extend b x.cell c n.left }

    module _ (x y : Record) (o : Option Record) (nx : Near x) (ny : Near y) where
      -- x weighs less than y or is y: where y is not before what is picked, x is not
      not_before : (x.weight < y.weight) ⊎ (x.cell ≡ y.cell) → Under y o → Under x o
      not_before (inl h) u = under_light x y o h u
      not_before (inr e) u = subst⁻¹ (λ (z : Record). Under z o) (w.single x y nx.here ny.here e) u

      -- y lies at or beyond x in both sequences
      pub beyond : x.cell.row ≤ y.cell.row → x.cell.column ≤ y.cell.column → Under y o → Under x o
      beyond hr hc = not_before (overtaken (extends x nx) (extends y ny) (weighs x nx) (weighs y ny) (record { rows = hr; columns = hc }))

      -- in one column y has the later row
      later : x.cell.column ≡ y.cell.column → x.cell.row ≤ y.cell.row → Under y o → Under x o
      later e h = not_before (latest_row (extends x nx) (extends y ny) (weighs x nx) (weighs y ny) e h)

      -- in one row y is nearer on the left
      nearer : x.cell.row ≡ y.cell.row → x.cell.column ≤ y.cell.column → Under y o → Under x o
      nearer e h = not_before (nearest_column (extends x nx) (extends y ny) (weighs x nx) (weighs y ny) e h)

    -- a record whose row and column lie in c's window is a left extension
    pub is_near : (x : Record) → Memᴰ x ws → c.row ≤ x.cell.row + b → x.cell.column ≤ c.column → c.column ≤ x.cell.column + b → Near x
    is_near x m hr hc hn =
        let r = w.rows x m in
        let ne : ¬ (c.row + c.column ≤ x.cell.row + x.cell.column) = λ h. (let k = w.own x m (omega arith) in omega arith) in
        record { here = m; left = record { row_le = r; row_near = hr; column_le = hc; column_near = hn; moved = omega arith } }

    -- the walk begins at c's column, with the nearest match of c's row on the left, if there is one
    pub walk_none : (stop : ℕ) → ((x : Record) → Near x → x.cell.row ≡ c.row → ⊥) → ((x : Record) → Near x → x.cell.column ≤ stop → ⊥)
        → Walk c.column stop none
    walk_none stop f g = record { from = tt; own = λ x n e. f x n e; low = λ x n e. g x n e; over = λ x n h. (let e = n.left in omega arith) }

    pub walk_near : (y : Record) → Near y → y.cell.row ≡ c.row → ((x : Record) → Memᴰ x ws → x.cell.row ≡ c.row → x.cell.column ≤ y.cell.column)
        → Walk c.column y.cell.column (some y)
    walk_near y ny e f =
        record {
          from = ny;
          own = λ x n r. nearer x y (some y) n ny (omega arith) (f x n.here r) (beats_irrefl y);
          low = λ x n h. beyond x y (some y) n ny (let k = n.left in omega arith) h (beats_irrefl y);
          over = λ x n h. (let k = n.left in omega arith);
        }

    module _ (q stop : ℕ) (o : Option Record) (k : Walk q stop o) where
      -- columns with nothing that could be the best are passed over, one or many
      pub walk_skip : (p : ℕ) → ((x : Record) → Near x → p < x.cell.column → x.cell.column ≤ q → Under x o) → Walk p stop o
      walk_skip p f =
          record {
            from = k.from;
            own = k.own;
            low = k.low;
            over = λ x n h. go x n h (three q x.cell.column);
          }
        where
          go : (x : Record) → Near x → p < x.cell.column → Three q x.cell.column → Under x o
          go x n h (below g) = k.over x n g
          go x n h (equal g) = f x n h (omega arith)
          go x n h (above g) = f x n h (omega arith)

      -- the next column that has any: of its records only the one with the latest row can be the best
      pub walk_take : (x : Record) → Near x → x.cell.column ≡ q
          → ((z : Record) → Memᴰ z ws → z.cell.column ≡ q → z.cell.row ≤ x.cell.row) → Walk (q - 1) stop (better o x)
      walk_take x nx e f =
          record {
            from = better_sure Near o x k.from nx;
            own = λ z n r. better_old o x z (k.own z n r);
            low = λ z n h. better_old o x z (k.low z n h);
            over = λ z n h. go z n h (three q z.cell.column);
          }
        where
          go : (z : Record) → Near z → q - 1 < z.cell.column → Three q z.cell.column → Under z (better o x)
          go z n h (below g) = better_old o x z (k.over z n g)
          go z n h (equal g) = later z x (better o x) n nx (omega arith) (f z n.here (sym g)) (better_new o x)
          go z n h (above g) = absurd (omega arith)

      -- where all that is left cannot be
      pub walk_end : q ≤ stop → Best o
      walk_end h = record { from = k.from; all = λ x n. go x n (three stop x.cell.column) }
        where
          go : (x : Record) → Near x → Three stop x.cell.column → Under x o
          go x n (below g) = k.over x n (omega arith)
          go x n (equal g) = k.low x n (omega arith)
          go x n (above g) = k.low x n (omega arith)

      -- a record of the latest row before c's own has been met: nothing further left is later
      pub walk_stop : (y : Record) → Near y → q < y.cell.column
          → ((x : Record) → Memᴰ x ws → x.cell.row < c.row → x.cell.row ≤ y.cell.row) → Best o
      walk_stop y ny h f = record { from = k.from; all = λ x n. go x n (three q x.cell.column) (three x.cell.row c.row) }
        where
          left : (x : Record) → Near x → x.cell.column ≤ q → Three x.cell.row c.row → Under x o
          left x n g (above r) = absurd (let e = n.left in omega arith)
          left x n g (equal r) = k.own x n r
          left x n g (below r) = beyond x y o n ny (f x n.here r) (omega arith) (k.over y ny h)

          go : (x : Record) → Near x → Three q x.cell.column → Three x.cell.row c.row → Under x o
          go x n (below g) r = k.over x n g
          go x n (equal g) r = left x n (omega arith) r
          go x n (above g) r = left x n (omega arith) r
