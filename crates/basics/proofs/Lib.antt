pub mod Apart
pub mod Bitwise
pub mod Padding
pub mod Front
pub mod Numbers
pub mod Placed
pub mod Table
pub mod Writing
