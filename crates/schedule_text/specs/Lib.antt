pub mod Limits
pub mod Words
pub mod Lines
pub mod Reading
pub mod Spelled
pub mod FirstBad
pub mod Answers
pub mod Printed
