pub mod Sweeps
pub mod Answering
pub mod Faults
pub mod Locals
pub mod Standing
pub mod Fits
pub mod Shortness
pub mod Spending
pub mod Frames
pub mod Examples
pub mod PartLookBacks
pub mod Determined
pub mod Settled
pub mod Served
pub mod Queuing
pub mod Cases
mod VotingOnly
mod FirstProfile
