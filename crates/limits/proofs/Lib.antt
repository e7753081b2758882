pub mod Reading
pub mod Limits
pub mod Earlier
