-- What the lines so far have said, and the lines ahead, make the answer. Assumes nothing.
use Rattle.input.proofs.Reading.{Reading}
use Rattle.input.proofs.read_input.Given as goal

abbrev pub invariant-loop-text : goal.invariant-loop-text
invariant-loop-text l = Reading l.input l.initial.first l.initial.second l.s l.text-iterator.rest.now l.line l.first l.second
