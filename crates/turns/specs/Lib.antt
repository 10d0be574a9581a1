-- One line of the input, in the words of document 01, "Frames", and of document 02's CR 1; States is what the functions hand on.
pub mod Turns
pub mod States
pub mod Examples
