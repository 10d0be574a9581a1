pub mod Readers
pub mod RoundTrip
pub mod Unique
