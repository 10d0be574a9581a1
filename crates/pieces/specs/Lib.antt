-- What a piece is, in the words of document 01, "Frames", and what becomes of it.
pub mod Letters
pub mod Taking
