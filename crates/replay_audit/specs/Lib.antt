pub mod Audits
pub mod Summed
pub mod ShownLines
