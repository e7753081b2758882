pub mod Pages
pub mod Sizes
