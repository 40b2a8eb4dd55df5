pub mod Texts
pub mod Sizes
mod Examples
