pub mod Unique
pub mod Exits
