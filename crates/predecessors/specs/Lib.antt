pub mod Numbers
pub mod Index
pub mod Found
