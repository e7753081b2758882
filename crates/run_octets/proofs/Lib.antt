pub mod Words
pub mod Signs
