-- The new column is the last of its hash, and its link is what was the last before it. Assumes nothing.
use native.Mathlib.Omega.{arith}
use Rattle.hashed.proofs.Tables.{table_put}
use Rattle.hashed.proofs.put.Goals as goal

pub returns : goal.returns
returns c =
    rw c.hash-h.ensures.0 (table_put c.requires.n_in_bounds (omega (arith, c.hash-h.ensures.0, c.hash-h.ensures.1)) c.requires.first_at c.requires.table)
