pub mod Walks
pub mod Texts
pub mod Turns
pub mod Drawn
pub mod Marked
