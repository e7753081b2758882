pub mod Cursor
pub mod Octets
pub mod Placed
