pub mod Windows
pub mod Unique
