pub mod Setting
pub mod Steps
pub mod Xor
