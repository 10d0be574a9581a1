-- Runs of equal keys, and a run turned round.
pub mod Turning
