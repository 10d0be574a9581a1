pub mod Links
pub mod Examples
pub mod Unique
