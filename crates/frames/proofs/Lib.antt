pub mod Frames
pub mod RoundTrip
