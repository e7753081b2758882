pub mod Arcs
pub mod Bound
pub mod Complete
pub mod Contexts
pub mod Demand
pub mod Demand3
pub mod Longest
pub mod Sound
