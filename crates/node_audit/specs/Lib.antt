pub mod Endings
pub mod Standing
