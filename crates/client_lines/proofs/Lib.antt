pub mod Cuts
pub mod Distinct
pub mod Ends
pub mod Exclusions
pub mod Kept
pub mod Texts
pub mod Values
