pub mod Walks
pub mod Steps
pub mod Swept
pub mod Unique
