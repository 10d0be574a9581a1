-- What an owner is, and owners written in order.
pub mod Owners
