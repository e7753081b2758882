pub mod Answers
pub mod Files
pub mod Positions
pub mod Beginning
pub mod Stopped
