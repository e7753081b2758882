pub mod Swapped
pub mod Turned
