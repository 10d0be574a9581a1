pub mod Cases
pub mod Counts
pub mod Sorting
pub mod Places
pub mod Unique
