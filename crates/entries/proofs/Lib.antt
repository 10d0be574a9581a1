pub mod Fitting
pub mod Turning
