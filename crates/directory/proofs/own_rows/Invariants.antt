-- Each turn writes one owner, that of the column beside the last one or one looked up, and touches no other number. Assumes nothing.
use Rattle.directory.proofs.Neighbours.{Rows}
use Rattle.directory.proofs.own_rows.Given as goal

abbrev pub invariant-loop-row : goal.invariant-loop-row
invariant-loop-row l = Rows l.first l.directory.codes.now l.initial.heads l.heads l.near l.row
