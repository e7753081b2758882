pub mod Record
pub mod LayingPass
