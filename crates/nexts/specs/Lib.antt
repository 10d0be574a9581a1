-- What a next column is.
pub mod Nexts
