pub mod Latest
pub mod Sweeping
