pub mod Parts
pub mod Sizes
pub mod Pieces
pub mod Cases
