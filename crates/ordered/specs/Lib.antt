-- Where a code would stand among ordered places.
pub mod Lower
