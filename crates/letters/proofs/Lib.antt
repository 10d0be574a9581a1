pub mod Capitals
pub mod Complements
pub mod Searching
pub mod FirstBad
