pub mod Choices
pub mod Peers
