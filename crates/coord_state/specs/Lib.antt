pub mod Checks
pub mod Outcomes
pub mod StandsFor
pub mod Writes
