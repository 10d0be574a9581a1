pub mod Capitals
pub mod FirstBad
