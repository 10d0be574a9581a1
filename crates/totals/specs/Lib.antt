-- What each step of counting and capping promises.
pub mod Steps
