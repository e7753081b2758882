pub mod Sizes
pub mod Demand2
pub mod Laws
