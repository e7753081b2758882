pub mod Number
pub mod Fault
pub mod Reply
pub mod Demand1
