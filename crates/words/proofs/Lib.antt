pub mod Answers
pub mod RoundTrip
pub mod Parts
pub mod Begun
pub mod Cuts
pub mod Rows
pub mod Signs
