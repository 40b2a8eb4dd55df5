pub mod Inspects
pub mod Report
pub mod Shows
