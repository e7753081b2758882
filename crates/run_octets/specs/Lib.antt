pub mod Octets
pub mod Laws
