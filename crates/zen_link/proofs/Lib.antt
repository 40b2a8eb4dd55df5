pub mod Appending
pub mod Inputs
