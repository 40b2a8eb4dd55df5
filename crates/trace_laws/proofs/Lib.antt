pub mod Echoes
pub mod Lines
pub mod Reading
pub mod Sets
pub mod Traces
