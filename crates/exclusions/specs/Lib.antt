pub mod Exclusions
