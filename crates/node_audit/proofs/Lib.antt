pub mod Adding
pub mod Nodes
