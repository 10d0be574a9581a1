use native.Mathlib.Omega.{arith}
use mathlib.Core.Path.{◌≡◌, refl, ◌∙◌}
use mathlib.Core.List.{List}
use Prim.Native.Nat.{ℕ, ◌+◌, ◌-◌, ◌*◌, ◌^◌, ◌%◌, ◌<◌, ◌≤◌}
use lib.ListN.{length, get_or}
use Rattle.std.proofs.Common.{Some, None}
use Rattle.rules.specs.Letters.{as_read, stands_for}
use Rattle.rules.specs.Places.{base_of}
use Rattle.rules.proofs.Masks.{read_length, read_places}
use Rattle.kmers.specs.Reading.{some_base}
use Rattle.kmers.proofs.Bases.{base_read, base_some, base_none}
use Rattle.kmers.proofs.Rolling.{Rolled, rolled_start, rolled_62, rolled_base, rolled_break, rolled_code}
use Rattle.kmers.proofs.Writing.{written_start, written_skip, written_next, written_end}
use Rattle.kmers.proofs.fill_codes.Goals as goal
use Rattle.kmers.proofs.fill_codes.Goals.{in-Some, in_default, then-k-n, else-k-n}

-- the run after the letter at n: a base makes it longer, any other letter ends it
module _ (mask : ℕ) (s : List ℕ) {n m : ℕ} (letter_in : n < length s) (setting : m ≡ mask) where
  run_longer : {k code run b code' run' : ℕ} → Some b ≡ some_base (base_of (stands_for m (get_or s n 0))) → Rolled (as_read mask s) k code run n
      → code' ≡ (code * 4 + b) % 2 ^ (2 * k) → run' ≡ run + 1 → Rolled (as_read mask s) k code' run' (n + 1)
  run_longer {b = b} some rolled code_is run_is =
      let good = base_some some in
      let e : b ≡ base_of (get_or (as_read mask s) n 0) = good.0 ∙ rw setting (base_read mask s n refl) in
      rw run_is (rolled_base _ _ _ _ _ _ (omega (arith, read_length mask s)) (omega (arith, e, good.0, good.1)) (rw e at code_is) rolled)

  run_ended : {k code' run' : ℕ} → None ≡ some_base (base_of (stands_for m (get_or s n 0))) → code' ≡ 0 → run' ≡ 0 → Rolled (as_read mask s) k code' run' (n + 1)
  run_ended none code_is run_is =
      let bad = rw (setting, base_read mask s n refl) at (base_none none) in
      rw (code_is, run_is) (rolled_break _ _ _ (omega (arith, read_length mask s)) bad)

pub loop-n-init : goal.loop-n-init
loop-n-init c = (rolled_start _ _, written_start _ _ _ c.requires.le_k)

pub roll-code-requires-clause-code_bound : goal.roll-code-requires-clause-code_bound
roll-code-requires-clause-code_bound c = rolled_62 _ _ _ _ _ c.requires.k_bound c.loop-n.invariant.0

pub roll-code-requires-clause-base_bound : goal.roll-code-requires-clause-base_bound
roll-code-requires-clause-base_bound c = let some = base_some c.in-Some.ensures in omega (arith, some.0, some.1)

pub slot-requires : goal.slot-requires
slot-requires c =
    let l = c.loop-n in
    let more = c.loop-n-test.true in
    let run_after : Rolled (as_read c.args.mask c.args.s.now) c.args.k c.match-base.code c.match-base.run (l.n + 1) = elim c.match-base.branch [
      | in-Some w ↦ run_longer _ _ more c.new-reader.ensures w.in-Some.ensures l.invariant.0 (w.code-is ∙ w.roll-code.ensures) w.run-is
      | in_default w ↦ run_ended _ _ more c.new-reader.ensures w.in_default.ensures w.code-is w.run-is
    ] in
    rolled_62 _ _ _ _ _ c.requires.k_bound run_after

pub loop-n-preserved : goal.loop-n-preserved
loop-n-preserved c =
    let a = c.args in
    let l = c.loop-n in
    let more = c.loop-n-test.true in
    let run_after : Rolled (as_read a.mask a.s.now) a.k c.match-base.code c.match-base.run (l.n + 1) = elim c.match-base.branch [
      | in-Some w ↦ run_longer _ _ more c.new-reader.ensures w.in-Some.ensures l.invariant.0 (w.code-is ∙ w.roll-code.ensures) w.run-is
      | in_default w ↦ run_ended _ _ more c.new-reader.ensures w.in_default.ensures w.code-is w.run-is
    ] in (
      run_after,
      elim c.if-k-n.branch [
        | then-k-n w ↦
            let first_in : l.n + 1 - a.k < length l.out = omega (arith, l.invariant.1.long, more, c.requires) in
            let e : l.n + 1 - a.k + a.k ≡ l.n + 1 = omega (arith, w.if-k-n.true) in
            let upto : l.n + 1 ≤ length (as_read a.mask a.s.now) = omega (arith, more, read_length a.mask a.s.now) in
            rw w.out-is (written_next _ _ _ _ _ _ _ e first_in (w.slot.ensures ∙ rolled_code _ _ _ _ _ _ e upto run_after) l.invariant.1)
        | else-k-n w ↦ rw w.out-is (written_skip _ _ _ _ _ w.if-k-n.false l.invariant.1)
      ],
    )

pub returns : goal.returns
returns c =
    let a = c.args in
    let e : c.loop-n.n ≡ length (as_read a.mask a.s.now) = omega (arith, read_length a.mask a.s.now) in
    rw (read_places a.mask a.k a.s.now) at (written_end _ _ _ _ _ e c.loop-n.invariant.1)
