-- What a line is, in the words of document 01, "Frames".
pub mod Digits
pub mod Errors
pub mod Writing
