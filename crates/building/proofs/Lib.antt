pub mod Sorting
pub mod Checking
pub mod Endings
pub mod Unique
