pub mod Pieces
pub mod Senders
