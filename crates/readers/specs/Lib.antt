-- The readers of a line, in the words of document 01, "Frames", and of document 02's CR 1.
pub mod Readers
pub mod Examples
