-- The ends of an entry fit 32 bits, so none of them wraps. Assumes nothing.
use Rattle.std.proofs.Common.{◌≡◌, ℕ, ◌+◌, ◌-◌, ◌%◌, ◌^◌, ◌≤◌, arith}
use Rattle.rules.specs.declared.Record.{Record}
use Rattle.rules.specs.Listing.{ends, entry_numbers}
use Rattle.entries.specs.Layout.{entry_in32}

-- where its ends fit, an entry in 32 bits is the entry
pub entry_fits_lem : (k : ℕ) (x : Record) → 1 ≤ k → x.cell.row + k ≤ 2 ^ 32 → x.cell.column + k ≤ 2 ^ 32 → entry_in32 k x ≡ entry_numbers k x
unfolding entry_in32 entry_numbers ends
entry_fits_lem k x h r c =
    let er : (x.cell.row + (k - 1)) % 2 ^ 32 ≡ x.cell.row + k - 1 = omega arith in
    let ec : (x.cell.column + (k - 1)) % 2 ^ 32 ≡ x.cell.column + k - 1 = omega arith in
    rw (er, ec)
