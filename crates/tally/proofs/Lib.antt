pub mod Walks
pub mod Counting
pub mod MatchedRows
pub mod Runs
