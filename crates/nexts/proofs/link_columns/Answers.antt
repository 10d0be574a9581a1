use mathlib.Core.Path.{◌≡◌, refl}
use mathlib.Core.List.{List}
use Prim.Native.Nat.{ℕ, ◌-◌, ◌<◌, ◌≤◌}
use native.Mathlib.Omega.{arith}
use lib.ListN.{get_or, length}
use borrow.Author.Rules.{rules}
use Rattle.ownership.specs.Owners.{Owns}
use Rattle.totals.proofs.Counting.{TalliedFrom, from_skip, from_small, from_next, from_end}
use Rattle.nexts.proofs.Links.{Linking, owner_in, linking_skip, linking_next}
use Rattle.nexts.proofs.link_columns.Goals as goal

-- at the column before k, whose code has the owner r: r has a place in tail and in count
module _ {second own tail₀ tail nexts₀ nexts : List ℕ} {k r : ℕ} (linking : Linking second tail₀ tail nexts₀ nexts k) (owns : Owns second own)
    (read : r ≡ get_or own (k - 1) 0) (some : r ≡ 0 → ⊥) (more : 0 < k) (in_tail : length second ≤ length tail₀)
    (in_nexts : length second ≤ length nexts₀) where
  owner_there : r - 1 < length second
  owner_there = owner_in (k - 1) (omega arith) in_tail in_nexts owns read linking some

  tail_there : r - 1 < length tail
  tail_there = omega (arith, owner_there, linking.kept)

  count_there : {count₀ count : List ℕ} {a : ℕ} → TalliedFrom own (length second) k a count₀ count → length second ≤ length count₀
      → r - 1 < length count
  count_there tallied in_count = omega (arith, owner_there, tallied.sums.long)

pub loop-p-preserved-then-e-eq0 : goal.loop-p-preserved-then-e-eq0
loop-p-preserved-then-e-eq0 c =
    let asked = c.requires in
    let i = c.loop-p.invariant in
    let none = c.if-e-eq0.true in (
      linking_skip (c.loop-p.p - 1) (omega arith) asked.second_in_bounds_2 asked.second_in_bounds_4 asked.owns refl i.0 none,
      from_skip (c.loop-p.p - 1) (omega arith) (omega arith) refl i.1 none,
    )

pub bounds-tail-q : goal.bounds-tail-q
bounds-tail-q c = search (rules, tail_there)

pub bounds-tail-q-else-e-eq0 : goal.bounds-tail-q-else-e-eq0
bounds-tail-q-else-e-eq0 c = search (rules, tail_there)

pub bounds-count-q : goal.bounds-count-q
bounds-count-q c = search (rules, count_there)

pub bounds-count-q-else-e-eq0 : goal.bounds-count-q-else-e-eq0
bounds-count-q-else-e-eq0 c = search (rules, count_there)

pub count_on-requires : goal.count_on-requires
count_on-requires c =
    let asked = c.requires in
    from_small (c.loop-p.p - 1) (omega arith) (omega arith) refl c.loop-p.invariant.1 c.if-e-eq0.false (search (rules, count_there))
    asked.zeros_2 asked.second_len_bound

pub loop-p-preserved : goal.loop-p-preserved
loop-p-preserved c =
    let asked = c.requires in
    let i = c.loop-p.invariant in
    let some = c.if-e-eq0.false in (
      linking_next (c.loop-p.p - 1) (omega arith) asked.second_in_bounds_2 asked.second_in_bounds_4 asked.owns refl i.0 some (omega arith),
      rw c.count_on.ensures (from_next (c.loop-p.p - 1) (omega arith) (omega arith) refl i.1 some (search (rules, count_there))),
    )

pub returns-clause-tallied : goal.returns-clause-tallied
returns-clause-tallied c = from_end c.loop-p-test.false c.loop-p.invariant.1
