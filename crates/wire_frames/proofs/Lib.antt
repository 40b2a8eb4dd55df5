pub mod FrameLaws
pub mod Sizes
pub mod Cutting
pub mod Spelled
pub mod Splitting
pub mod Carrying
pub mod Viewing
