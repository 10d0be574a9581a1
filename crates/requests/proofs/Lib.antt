pub mod Mirror
pub mod Index
pub mod IndexPass
pub mod Backwards
pub mod OverIndex
pub mod Theorems
