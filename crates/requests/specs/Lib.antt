-- The requests that stand on the rules: the column index (CR 6).
pub mod Index
