pub mod Lines
pub mod Reading
pub mod RoundTrip
pub mod Cutting
pub mod Letters
pub mod Unique
