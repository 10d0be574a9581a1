pub mod Counting
pub mod Striking
pub mod Examples
pub mod Unique
