pub mod Linked
pub mod Columns
