pub mod Coded
pub mod Walking
