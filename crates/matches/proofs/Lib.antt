pub mod Totals
pub mod Rows
pub mod Walking
pub mod Walked
pub mod Stepping
pub mod Unique
pub mod Leaving
pub mod Examples
