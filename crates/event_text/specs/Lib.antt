pub mod Published
pub mod Frames
pub mod Deeds
pub mod Events
