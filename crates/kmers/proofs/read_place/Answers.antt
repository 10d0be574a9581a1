use native.Mathlib.Omega.{arith}
use mathlib.Core.Path.{◌≡◌, refl, ap, ◌∙◌}
use mathlib.Core.List.{List}
use Prim.Native.Nat.{ℕ, ◌+◌, ◌-◌, ◌*◌, ◌<◌, ◌≤◌}
use lib.ListN.{length, get_or, take, drop, length-take, length-drop}
use lib.Seq.{get_or-take, get_or-drop}
use Rattle.std.proofs.Common.{Some, None, Err}
use Rattle.rules.specs.Letters.{as_read, stands_for}
use Rattle.rules.specs.Places.{base_of}
use Rattle.rules.proofs.Masks.{read_length}
use Rattle.kmers.specs.Reading.{read_place, some_base, as_result}
use Rattle.kmers.proofs.Bases.{base_read, base_some, base_none}
use Rattle.kmers.proofs.Reading.{Reading, reading_start, reading_62, reading_break, reading_next, reading_end}
use Rattle.kmers.proofs.read_place.Goals as goal

-- the letters of a place, and the one that is read: the sequence as it is read has as many letters, and its base there
module _ (s : List ℕ) (place k : ℕ) {read : ℕ} (more : read < length (take (place - 1 + k - (place - 1)) (drop (place - 1) s))) where
  read_in : (read < k) × (place - 1 + read < length s)
  read_in =
      let l = length-take (place - 1 + k - (place - 1)) (drop (place - 1) s) in
      let d = length-drop (place - 1) s in
      (omega arith, omega arith)

  letter_there : get_or (take (place - 1 + k - (place - 1)) (drop (place - 1) s)) read 0 ≡ get_or s (place - 1 + read) 0
  letter_there = get_or-take (place - 1 + k - (place - 1)) (drop (place - 1) s) read 0 (omega (arith, read_in.0)) ∙ get_or-drop (place - 1) s read 0

  module _ (mask : ℕ) {code m : ℕ} (reading : Reading (as_read mask s) k place code read) (setting : m ≡ mask) where
    broken_there : None ≡ some_base (base_of (stands_for m (get_or (take (place - 1 + k - (place - 1)) (drop (place - 1) s)) read 0)))
        → Err (record { place = place + read }) ≡ as_result (read_place k (as_read mask s) place)
    unfolding as_result
    broken_there none =
        let bad = rw (setting, letter_there, base_read mask s (place - 1 + read) refl) at (base_none none) in
        ap as_result (reading_break _ _ _ _ _ read_in.0 (omega (arith, read_in.1, read_length mask s)) bad reading)

    one_more : {b code' : ℕ} → Some b ≡ some_base (base_of (stands_for m (get_or (take (place - 1 + k - (place - 1)) (drop (place - 1) s)) read 0)))
        → code' ≡ code * 4 + b → Reading (as_read mask s) k place code' (read + 1)
    one_more {b} some pushed =
        let good = base_some some in
        let e : b ≡ base_of (get_or (as_read mask s) (place - 1 + read) 0) = good.0 ∙ rw (setting, letter_there) (base_read mask s (place - 1 + read) refl) in
        reading_next _ _ _ _ _ _ read_in.0 (omega (arith, read_in.1, read_length mask s)) (omega (arith, e, good.0, good.1)) (rw e at pushed) reading

pub loop-read-init : goal.loop-read-init
loop-read-init c = reading_start _ _ _

pub returns-in_default : goal.returns-in_default
returns-in_default c =
    broken_there c.args.s.now c.args.place c.args.k c.loop-read-test.true c.args.mask c.loop-read.invariant c.new-reader.ensures c.in_default.ensures

pub push-code-requires-clause-code_bound : goal.push-code-requires-clause-code_bound
push-code-requires-clause-code_bound c = reading_62 _ _ _ _ _ c.requires.k_bound c.loop-read.invariant

pub push-code-requires-clause-base_bound : goal.push-code-requires-clause-base_bound
push-code-requires-clause-base_bound c = let some = base_some c.in-Some.ensures in omega (arith, some.0, some.1)

pub loop-read-preserved : goal.loop-read-preserved
loop-read-preserved c =
    one_more c.args.s.now c.args.place c.args.k c.loop-read-test.true c.args.mask c.loop-read.invariant c.new-reader.ensures c.in-Some.ensures c.push-code.ensures

pub returns : goal.returns
unfolding as_result
returns c =
    let a = c.args in
    let l = length-take (a.place - 1 + a.k - (a.place - 1)) (drop (a.place - 1) a.s.now) in
    let d = length-drop (a.place - 1) a.s.now in
    let all : a.k ≤ c.loop-read.read = omega (arith, c.loop-read-test.false) in
    ap as_result (reading_end _ _ _ _ _ all c.loop-read.invariant)
