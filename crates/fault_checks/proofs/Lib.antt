mod Others
mod Ascending
pub mod Examples
pub mod Happened
mod Sets
pub mod Standing
pub mod Keeping
