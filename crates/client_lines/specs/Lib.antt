pub mod Requests
pub mod Reading
pub mod Replies
pub mod Lines
pub mod Laws
pub mod Ends
