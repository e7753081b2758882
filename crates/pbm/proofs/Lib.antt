pub mod Answers
pub mod RoundTrip
pub mod Headers
pub mod Pages
