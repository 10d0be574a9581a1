-- The whole output of a job, in the words of document 01, "Frames".
pub mod Output
pub mod Entries
