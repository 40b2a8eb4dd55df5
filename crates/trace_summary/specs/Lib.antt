pub mod Counted
pub mod Summaries
pub mod Tallies
pub mod Printed
