pub mod Ahead
pub mod Steps
pub mod Units
