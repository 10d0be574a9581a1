pub mod Turning
pub mod Matching
pub mod Unique
