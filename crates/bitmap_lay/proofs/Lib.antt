pub mod Blacks
pub mod Lays
