pub mod Parts
pub mod Sweeping
pub mod Ending
pub mod Unique
