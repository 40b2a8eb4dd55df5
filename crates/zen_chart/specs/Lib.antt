pub mod Codes
pub mod Ran
pub mod Reading
pub mod Runs
