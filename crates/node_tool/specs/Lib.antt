pub mod Ends
pub mod Laws
pub mod Runs
pub mod Tools
pub mod Uses
