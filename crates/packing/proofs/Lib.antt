pub mod Appended
pub mod Octetwise
