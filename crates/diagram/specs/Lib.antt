pub mod Diagram
pub mod Decoder
pub mod Demand3
pub mod Laws
