-- `tally::row_size` meets its contract: the columns that are counted are those of the row. Assumes nothing.
use Rattle.std.proofs.Common.{inl, arith}
use Rattle.std.proofs.lemmas.Iterator.Consumers.{count_from_yields_List}
use Rattle.matches.proofs.Walked.{row_few}
use Rattle.matches.proofs.Stepping.{columns_listed}
use Rattle.tally.proofs.row_size.Goals as goal

pub count-requires-clause-fits : goal.count-requires-clause-fits
count-requires-clause-fits c = inl (omega (arith, row_few c.args.columns.nexts.now c.args.columns.at))

pub returns : goal.returns
returns c = count_from_yields_List c.args.columns c.count.result c.count.ensures.ran (columns_listed c.args.columns)
