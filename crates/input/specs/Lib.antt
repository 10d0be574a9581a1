-- The input of the program, in the words of document 01, "Frames", and of document 02's CR 1.
pub mod Lines
pub mod Grammar
pub mod Examples
