pub mod Asked
pub mod Processed
pub mod Replies
pub mod Lasting
pub mod Laws
pub mod InTime
