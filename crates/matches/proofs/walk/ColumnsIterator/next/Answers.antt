-- `next` of a row's columns meets its contract: behind a column there are fewer. Assumes nothing.
use Rattle.std.proofs.Common.{arith}
use Rattle.matches.proofs.Walked.{row_less}
use Rattle.matches.proofs.walk.ColumnsIterator.next.Goals as goal

pub returns-clause-goes : goal.returns-clause-goes
returns-clause-goes c =
    record {
      on = λ _. (tt, tt, row_less c.args.self.now.safe c.args.self.now.at (omega arith) c.args.self.now.inside);
      keeps = tt;
      rests = λ _. tt;
    }
