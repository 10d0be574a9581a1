-- Frames by the numbers of their kinds, as they cross the C boundary; Taking is what the functions hand on.
pub mod Frames
pub mod Taking
pub mod Examples
