use mathlib.Core.Path.{ap}
use Prim.Native.Nat.{◌≤◌, ◌+◌}
use native.Mathlib.Omega.{arith}
use lib.ListN.{length, take, length-drop, length-take}
use Rattle.std.proofs.Common.{rules, nat_eq}
use Rattle.std.proofs.lemmas.Fn.{always_returns_same}
use Rattle.requests.specs.Index.{kmer_places}
use Rattle.index.proofs.Passes.{few_kmers}
use Rattle.turning.proofs.Runs.{run_of, run_left, run_within, in_index, turning_next, turning_end, kept_end}
use Rattle.turning.proofs.turn_index.Goals as goal

pub turn_run-requires : goal.turn_run-requires
turn_run-requires c =
    let l = c.args.lookup in
    let room : c.args.lookup.places ≤ length c.args.lookup.keys.now = omega (arith, c.args.lookup.counted, c.args.lookup.indexed.long) in
    let upto : c.loop-run.from ≤ c.args.lookup.places = omega (arith, c.loop-run.invariant.turning.upto, c.args.lookup.counted) in
    let (cut, some, prefix) = c.in-Some.ensures.steps in
    let run = run_of _ _ _ _ _ _ room upto c.loop-run.invariant.left cut some (prefix nat_eq (always_returns_same _ _ _ (λ a r f k. search rules))).1 in
    let few = few_kmers l.codes.now in
    let inside : c.loop-run.from + length c.in-Some.run'.now ≤ kmer_places l.codes.now = omega (arith, run.upto, l.counted) in
    record {
      from_le_to = omega arith;
      to_in_bounds = in_index l.indexed inside;
      to_in_bounds_2 = omega (arith, inside, few, c.requires, c.loop-run.invariant.turning.kept.long);
      columns_bound = l.few;
      within = run_within l.indexed inside;
    }

pub loop-run-preserved : goal.loop-run-preserved
loop-run-preserved c =
    let room : c.args.lookup.places ≤ length c.args.lookup.keys.now = omega (arith, c.args.lookup.counted, c.args.lookup.indexed.long) in
    let upto : c.loop-run.from ≤ c.args.lookup.places = omega (arith, c.loop-run.invariant.turning.upto, c.args.lookup.counted) in
    let (cut, some, prefix) = c.in-Some.ensures.steps in
    let run = run_of _ _ _ _ _ _ room upto c.loop-run.invariant.left cut some (prefix nat_eq (always_returns_same _ _ _ (λ a r f k. search rules))).1 in
    record {
      left = run_left _ _ _ _ _ _ room upto c.loop-run.invariant.left cut some (prefix nat_eq (always_returns_same _ _ _ (λ a r f k. search rules))).1;
      turning = turning_next c.args.lookup.indexed c.loop-run.invariant.turning (rw (← c.args.lookup.counted) run) c.turn_run.ensures;
    }

pub returns : goal.returns
returns c =
    let l = c.args.lookup in
    let (none, _) = c.in-None.ensures.steps in
    let left = c.loop-run.invariant.left in
    let done : kmer_places l.codes.now ≤ c.loop-run.from = omega (arith, none, ap length left, length-drop c.loop-run.from (take l.places l.keys.now), length-take l.places l.keys.now, l.counted, l.indexed.long) in
    let room : kmer_places l.codes.now ≤ length c.args.out.now = omega (arith, few_kmers l.codes.now, c.requires) in
    record { indexed = turning_end l.indexed c.loop-run.invariant.turning done room; kept = rw l.counted (kept_end l.indexed c.loop-run.invariant.turning done room) }
