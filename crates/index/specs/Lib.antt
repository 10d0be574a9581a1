-- What a pass over a given slice reads, and what one turn of it decides.
pub mod Keys
pub mod Held
