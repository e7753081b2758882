pub mod Bitwise
pub mod Columns
pub mod Pels
pub mod Taken
pub mod White
