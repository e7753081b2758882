pub mod Agrees
pub mod Lengths
pub mod Listed
