pub mod Rows
pub mod Strands
pub mod Matching
pub mod Unique
