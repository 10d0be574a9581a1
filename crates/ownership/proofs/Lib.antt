pub mod Hits
pub mod Owns
pub mod Unique
