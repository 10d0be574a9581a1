pub mod Decoding
pub mod Frames
pub mod RoundTrip
pub mod Unique
