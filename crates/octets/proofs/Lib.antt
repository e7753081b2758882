pub mod Fields
pub mod Packed
pub mod BitsEqual
pub mod Window
