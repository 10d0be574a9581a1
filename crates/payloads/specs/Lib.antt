-- What stands in a frame, in the words of document 01, "Frames".
pub mod Numbers
pub mod Pieces
pub mod Lines
