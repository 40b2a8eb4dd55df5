pub mod Enough
pub mod Endings
