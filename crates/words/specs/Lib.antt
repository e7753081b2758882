pub mod Words
pub mod Calls
pub mod Lines
pub mod Laws
