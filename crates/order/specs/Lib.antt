-- Order is what a caller reads, Counts what a crate above cites; Steps are the promises of the functions inside.
pub mod Counts
pub mod Order
pub mod Steps
