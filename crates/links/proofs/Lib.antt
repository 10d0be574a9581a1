pub mod MatchedSoFar
pub mod Pairs
pub mod ColumnSums
pub mod Releases
pub mod Links
