pub mod OnLine
pub mod Captured
pub mod Made
