pub mod Linearizations
