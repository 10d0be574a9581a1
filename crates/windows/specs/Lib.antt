-- The window of a column.
pub mod Windows
