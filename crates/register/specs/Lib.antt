pub mod Register
pub mod Setting
