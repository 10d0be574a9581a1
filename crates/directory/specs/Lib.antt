-- Buckets of keys by their leading bits, and where a code would stand among keys.
pub mod Directory
