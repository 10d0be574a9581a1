-- The first column of the code, if there is one, is in the list of its hash and not yet passed; links fall, so a look a column is enough. Assumes nothing.
use Prim.Native.Nat.{◌-◌}
use Rattle.hashed.proofs.Tables.{Searching}
use Rattle.hashed.proofs.Part.find.Given as goal

abbrev pub invariant-loop-look : goal.invariant-loop-look
invariant-loop-look l = Searching l.self.second.now l.c l.self.n l.limit l.x (l.limit - l._look)
