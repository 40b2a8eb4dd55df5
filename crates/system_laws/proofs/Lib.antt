pub mod Meant
pub mod Sending
pub mod MeantRules
pub mod Done
pub mod Stepping
pub mod Interleaving
pub mod Assembly
pub mod Older
pub mod Orders
pub mod Restarting
pub mod RunsKept
pub mod VotingOnly
mod Examples
