pub mod Grows
pub mod Judges
