-- The counts of columns that the link total is summed from.
pub mod Columns
