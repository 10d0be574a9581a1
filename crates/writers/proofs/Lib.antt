pub mod Writers
pub mod Unique
