pub mod Answers
pub mod Commands
pub mod Given
pub mod Lists
pub mod Program
pub mod Values
