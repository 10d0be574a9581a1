-- Both ways end with every owner written: by the table where it could be built, and else by the sort, over what `build` had written. Assumes nothing.
use Rattle.std.proofs.Common.{ℕ, arith}
use lib.ListN.{length-replicate}
use Rattle.order.proofs.Cases.{zero_at}
use Rattle.hashed.proofs.Tables.{table_start}
use Rattle.owners.proofs.own_all.Goals as goal

pub build-requires-clause-table : goal.build-requires-clause-table
build-requires-clause-table c =
    table_start (length-replicate {A = ℕ} 32768 0) (omega (arith, length-replicate {A = ℕ} 16384 0)) (zero_at 32768)
