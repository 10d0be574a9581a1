pub mod Bits
pub mod Storing
pub mod Sums
pub mod Lines
pub mod Unique
