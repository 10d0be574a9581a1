-- The kinds of frames, in the words of document 01, "Frames", and of document 02's CR 1.
pub mod Kind
pub mod Kinds
pub mod Carried
pub mod Laws
pub mod Examples
