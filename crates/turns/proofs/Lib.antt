pub mod Numbering
pub mod Taking
pub mod Unique
