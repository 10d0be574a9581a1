pub mod Closing
pub mod Releasing
pub mod Unique
