pub mod Needs
pub mod Tallies
pub mod Entering
pub mod Unique
