pub mod Calls
pub mod Laws
pub mod Rounds
pub mod Replies
