-- What a line says, in the words of document 01, "Frames".
pub mod Digits
pub mod Reading
