pub mod Numbers
pub mod Zlib
pub mod Written
pub mod Laws
