pub mod Places
pub mod Taken
pub mod Found
pub mod Extracts
