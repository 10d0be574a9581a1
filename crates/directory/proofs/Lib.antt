pub mod Between
pub mod Buckets
pub mod Lookups
pub mod Neighbours
