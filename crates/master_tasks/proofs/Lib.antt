mod Applying
pub mod Settling
pub mod Stepping
pub mod Making
pub mod Limits
pub mod Sameness
pub mod Counting
pub mod Resting
