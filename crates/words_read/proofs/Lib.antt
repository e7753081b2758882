pub mod Answers
pub mod Draws
pub mod Scans
pub mod Taking
pub mod Lines
