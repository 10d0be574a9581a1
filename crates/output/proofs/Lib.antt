pub mod Writing
pub mod Sizes
pub mod ReadBack
pub mod Answering
