pub mod Limits
pub mod Earlier
