pub mod Endings
pub mod Published
pub mod Trace
