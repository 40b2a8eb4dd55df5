pub mod Words
pub mod Causes
pub mod Json
pub mod Acts
pub mod Lines
pub mod Reading
pub mod Entries
