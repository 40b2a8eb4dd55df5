pub mod Standing
mod Values
