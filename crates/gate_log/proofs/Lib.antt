pub mod Laid
pub mod Added
mod Answered
mod Both
mod BothRead
mod Opening
mod Ordered
pub mod Settled
pub mod Folded
pub mod Places
mod Prefixes
