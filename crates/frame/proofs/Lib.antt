pub mod RoundTrip
pub mod Frames
