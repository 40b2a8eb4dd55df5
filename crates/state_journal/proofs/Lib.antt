pub mod Beginning
mod Changing
mod Digests
pub mod Folds
pub mod Found
pub mod Frames
pub mod Laying
mod Reading
mod Refused
mod Same
pub mod Spelled
pub mod Writing
