use native.Mathlib.Omega.{arith}
use Rattle.hashed.proofs.Tables.{search_found, search_none}
use Rattle.hashed.proofs.Part.find.Goals as goal

pub returns-then-x-eq0 : goal.returns-then-x-eq0
returns-then-x-eq0 c = record { found = search_none c.requires (omega arith) c.loop-look.invariant; column = tt }

pub returns-then-self-p : goal.returns-then-self-p
returns-then-self-p c = record {
  found = search_found (omega arith) c.loop-look.invariant c.if-self-p.true;
  column = (omega arith, c.loop-look.invariant.within);
}

pub returns-then-x-eq0-2 : goal.returns-then-x-eq0-2
returns-then-x-eq0-2 c = record { found = search_none c.requires (omega arith) c.loop-look.invariant; column = tt }
