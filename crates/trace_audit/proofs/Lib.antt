pub mod Endings
pub mod Says
pub mod Steps
pub mod Noted
pub mod SameMessages
pub mod Tracing
pub mod Openings
pub mod Maps
pub mod Sendings
pub mod Initial
pub mod Judging
pub mod Acting
pub mod WasSent
pub mod Counting
pub mod Codes
mod Examples
