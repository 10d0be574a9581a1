-- What the tallies are.
pub mod Tallies
