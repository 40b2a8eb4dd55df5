pub mod Laws
pub mod SystemReplies
pub mod Lasting
