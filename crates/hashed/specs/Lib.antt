-- The table, as its functions hand it on.
pub mod Table
pub mod Looked
