-- Run by run, what is turned is in the order of the codes read backwards. Assumes nothing.
use Rattle.std.proofs.Common.{◌≡◌, take, drop}
use Rattle.turning.proofs.Runs.{Turning}
use Rattle.turning.proofs.turn_index.Given as goal

abbrev pub invariant-loop-run : goal.invariant-loop-run
invariant-loop-run l = record {
  left : l.run-iterator.rest.now ≡ drop l.from (take l.lookup.places l.lookup.keys.now);
  turning : Turning l.lookup.codes.now l.lookup.keys.now l.initial.out l.out l.from;
}
