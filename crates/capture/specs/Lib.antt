pub mod Frames
pub mod Find
pub mod Extract
pub mod Laws
pub mod ExtractLaws
