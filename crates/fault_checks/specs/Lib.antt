pub mod Checks
pub mod Choices
pub mod Followers
pub mod Happenings
pub mod Laws
pub mod Leaders
pub mod Spans
