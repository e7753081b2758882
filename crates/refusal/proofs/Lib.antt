pub mod Demand1
pub mod Numbers
pub mod Passed
pub mod Replies
