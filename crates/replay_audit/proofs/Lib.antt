pub mod Core
pub mod Counting
pub mod Entries
pub mod Named
pub mod Readable
pub mod Steps
pub mod Summary
pub mod Whole
