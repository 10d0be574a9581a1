-- The whole output of the program, in the words of document 01, "Frames".
pub mod Whole
pub mod Examples
