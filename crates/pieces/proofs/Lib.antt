pub mod Unpacking
pub mod Pieces
pub mod Unique
