-- Columns is the contract, Walks what a sweep makes of it.
pub mod Columns
pub mod Walks
