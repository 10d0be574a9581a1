-- `Ring::slot` meets its contract: a remainder plus the origin is below twice the size, so one subtraction is the second remainder. Assumes nothing.
use mathlib.Core.Path.{◌≡◌, sym, ◌∙◌}
use Prim.Native.Nat.{ℕ, ◌+◌, ◌-◌, ◌%◌, ◌≤◌, ◌<◌}
use native.Mathlib.Nat.{mod-lt, mod-eq_of_lt, mod-eq-sub-mod, mod-add-mod}
use native.Mathlib.Omega.{arith}
use Rattle.predecessors.specs.declared.ring.Ring.{Ring}
use Rattle.predecessors.specs.Numbers.{slot_of}
use Rattle.predecessors.proofs.ring.Ring.slot.Goals as goal

slot-low : (ring : Ring) (g : ℕ) → g % ring.size + ring.origin < ring.size → g % ring.size + ring.origin ≡ slot_of ring g
unfolding slot_of
slot-low ring g h = sym (mod-eq_of_lt h) ∙ mod-add-mod g ring.size ring.origin

slot-high : (ring : Ring) (g : ℕ) → ring.size ≤ g % ring.size + ring.origin → g % ring.size + ring.origin - ring.size ≡ slot_of ring g
unfolding slot_of
slot-high ring g h =
    let l = mod-lt g ring.some_room in
    let o = ring.begins in
    sym (mod-eq-sub-mod h ∙ mod-eq_of_lt (omega arith)) ∙ mod-add-mod g ring.size ring.origin

pub returns-then-at-self-clause-slot : goal.returns-then-at-self-clause-slot
returns-then-at-self-clause-slot c = slot-low c.args.self c.args.g c.if-at-self.true

pub returns-else-at-self-clause-slot : goal.returns-else-at-self-clause-slot
returns-else-at-self-clause-slot c = slot-high c.args.self c.args.g c.if-at-self.false
