pub mod Filling
pub mod Frames
