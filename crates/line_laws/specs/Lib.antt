pub mod Fits
pub mod Readable
pub mod Read
