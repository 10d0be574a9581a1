pub mod Runs
pub mod Holding
pub mod Outcomes
